-- Laws of the rows of a half of the report.
pub mod RowLaws
