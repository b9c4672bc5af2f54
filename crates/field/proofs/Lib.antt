-- Laws that the proofs of the calls cite.
pub mod CheckLaws
pub mod InPlaceLaws
pub mod WindFreshLoad
