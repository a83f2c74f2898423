-- The straps that the blade crosses, over the lent blocks.
pub mod Bends
pub mod Crossings
pub mod Unbent
pub mod Crossed
