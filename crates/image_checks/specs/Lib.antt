-- The checks of an image, from its bytes.
pub mod Runs
