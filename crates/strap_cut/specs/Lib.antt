-- The cut of straps, over the lent blocks.
pub mod Segments
