-- The two round trips, bottom to top.
pub mod SoundLaws
pub mod SectionParts
pub mod WrittenThenRead
pub mod ReadThenWritten
pub mod Theorem
