-- The bytes of std's conversions, by the definitions of the file's format.
pub mod ByteLaws
pub mod PlaceLaws
