-- What the searches have found, turn by turn, and runs of tests.
pub mod SearchLaws
pub mod RunLaws
