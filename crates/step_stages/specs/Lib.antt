-- What the stages' leaves ask and answer.
pub mod Passes
