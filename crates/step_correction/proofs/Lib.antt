pub mod Laws
pub mod HeldLaws
