-- What a function that adds bytes leaves: in a buffer, and in a text.
pub mod Added
pub mod Adds
