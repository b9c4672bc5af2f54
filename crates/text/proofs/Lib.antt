-- Laws of bytes that are added to a buffer or a text, and of numbers in base ten.
pub mod AddedLaws
pub mod AddsLaws
pub mod DecimalLaws
