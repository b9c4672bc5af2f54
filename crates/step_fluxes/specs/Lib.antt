-- What the fluxes' leaves ask and answer.
pub mod Amount
