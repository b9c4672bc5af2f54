-- Answers, shapes and faces as numbers.
pub mod NumberLaws
