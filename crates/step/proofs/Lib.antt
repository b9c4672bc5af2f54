pub mod Laws
pub mod TracerLaws
pub mod CheckLaws
