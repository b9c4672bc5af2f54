-- What the leaves of file reading answer, beside document 01's own definitions.
pub mod Reading
