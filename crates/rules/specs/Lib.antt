-- Document 01 as definitions, section by section, with what the requests of document 02 changed. This is what a reader must believe; nothing is proved here.
pub mod Answers
pub mod Field
pub mod Sizes
pub mod Bytes
pub mod WindRecords
pub mod Limiter
pub mod Grid
pub mod Stages
pub mod Correction
pub mod HeldFlux
pub mod Step
pub mod Calls
pub mod Ledger
pub mod FieldFile
pub mod Text
pub mod Map
pub mod Program
