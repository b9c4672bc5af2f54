-- What the leaves of the closing speak of.
pub mod Shifted
pub mod Values
