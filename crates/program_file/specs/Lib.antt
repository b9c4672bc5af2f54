-- What the reading of a program's file gives.
pub mod FileTaken
