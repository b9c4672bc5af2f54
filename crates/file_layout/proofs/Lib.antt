-- Where the sections stand, and numbers and sections as bytes.
pub mod LayoutLaws
pub mod NumberLaws
pub mod SectionLaws
pub mod FileLaws
-- the marks
pub mod MarkLaws
-- What an accepted answer of each call on a file has shown, for their callers and the round trips.
pub mod ReplyLaws
