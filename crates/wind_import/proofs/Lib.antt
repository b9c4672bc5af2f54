-- Laws of the import.
pub mod ImportLaws
