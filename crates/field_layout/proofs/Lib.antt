-- Laws that the proofs of the places and their callers cite.
pub mod PlaceLaws
pub mod GridLaws
