-- Laws of the pages of a field that was read.
pub mod PagesLaws
