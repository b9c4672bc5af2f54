-- Lists of calls, the ledger over them, and what demand 3 says of every list.
pub mod Lists
pub mod Demand3
pub mod OverCalls
