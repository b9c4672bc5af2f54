-- Laws of a page's numbers and columns.
pub mod PageLaws
