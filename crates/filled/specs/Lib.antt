-- Definitions that the laws of filled blocks name.
pub mod Counts
