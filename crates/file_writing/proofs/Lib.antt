-- Laws of the parts of the file and of the checks.
pub mod WritingLaws
pub mod FileWritten
pub mod WriteChecks
