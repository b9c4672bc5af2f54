-- What a type of stored numbers keeps.
pub mod Laws
