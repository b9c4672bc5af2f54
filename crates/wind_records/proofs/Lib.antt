-- Laws of wind records.
pub mod DoubleLaws
pub mod RecordLaws
pub mod ReadingLaws
pub mod WindsLaws
