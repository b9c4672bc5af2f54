-- Laws of what a program prints for a file.
pub mod PrintedLaws
