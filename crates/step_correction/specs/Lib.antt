-- What the flux correction's leaves ask and answer.
pub mod Amounts
