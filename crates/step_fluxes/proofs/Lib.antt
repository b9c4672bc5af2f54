pub mod Laws
pub mod FluxLaws
