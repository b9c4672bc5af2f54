-- What the leaves on places ask and answer, beside document 01's own definitions.
pub mod Places
-- The grid of a shape.
pub mod Grids
