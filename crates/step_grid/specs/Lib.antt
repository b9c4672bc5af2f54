-- What the grid's leaves answer.
pub mod Place
