-- What the functions that add a page's lines ask for, the text of a line by its case, and its numbers.
pub mod PageLines
pub mod PageNumbers
