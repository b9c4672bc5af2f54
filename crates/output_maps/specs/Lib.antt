-- A field that was read.
pub mod SoundField
