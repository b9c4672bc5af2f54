-- Laws that the proofs of the sections cite.
pub mod SectionLaws
pub mod PartLaws
