-- The table of links in a split.
pub mod Splits
