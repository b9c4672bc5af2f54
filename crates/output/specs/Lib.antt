-- What the functions that print tracers leave.
pub mod AddedLines
