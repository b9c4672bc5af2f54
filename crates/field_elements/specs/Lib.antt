-- What the leaves on parts of a field answer, beside document 01's own definitions.
pub mod Weighing
