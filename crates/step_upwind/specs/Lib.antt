-- What the upwind leaves ask and answer.
pub mod Upwind
