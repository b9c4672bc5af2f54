-- What the search of a tracer's part answers.
pub mod Search
