-- What the leaves of the calls on a field answer, beside the documents' own definitions.
pub mod Leaves
