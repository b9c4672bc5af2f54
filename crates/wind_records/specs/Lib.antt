-- What the leaves of an import tell.
pub mod Records
