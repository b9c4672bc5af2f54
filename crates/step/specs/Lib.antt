-- What the step's leaves ask and answer.
pub mod Finish
