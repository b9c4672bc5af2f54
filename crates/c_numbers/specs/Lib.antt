-- Shapes and answers as numbers.
pub mod Numbers
