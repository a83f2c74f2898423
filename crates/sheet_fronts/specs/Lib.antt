-- A sheet read to the fronts of blocks.
pub mod Fronts
