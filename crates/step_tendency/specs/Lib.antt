-- What the tendency's leaves answer, and how large their numbers are.
pub mod Sizes
pub mod Line
pub mod Lines
