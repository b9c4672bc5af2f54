-- The numbers of a section.
pub mod Numbers
