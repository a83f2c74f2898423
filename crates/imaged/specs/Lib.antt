-- Definitions that the laws of images read back name.
pub mod Bytes
