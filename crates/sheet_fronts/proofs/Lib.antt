-- The laws of a sheet that is read to the fronts of blocks.
pub mod Reading
