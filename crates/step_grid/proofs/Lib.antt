pub mod Laws
pub mod RowLaws
pub mod PlaceLaws
