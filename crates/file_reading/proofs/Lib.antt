-- Laws of the tail, of the sections and their parts, and of the checks.
pub mod TailLaws
pub mod ReadLaws
pub mod PartLaws
pub mod CheckLaws
