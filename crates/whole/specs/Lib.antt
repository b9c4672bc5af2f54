-- Whole numbers: their two parts, sums, tables, and the bounds and divisions that contracts state.
pub mod Parts
pub mod Sum
pub mod Table
pub mod Bound
pub mod Nearest
