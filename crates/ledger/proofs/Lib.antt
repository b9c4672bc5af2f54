-- Demand 3, proved.
pub mod Agreement
pub mod Striking
pub mod Theorem
pub mod Rows
pub mod Listed
