-- The removal of straddlers across pieces, step by step, over the lent blocks.
pub mod Straddling
