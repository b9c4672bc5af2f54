pub mod Laws
pub mod TendencyLaws
pub mod ListedLaws
