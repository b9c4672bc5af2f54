pub mod Laws
pub mod StagesLaws
