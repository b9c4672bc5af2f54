-- The map's checks.
pub mod CheckLaws
