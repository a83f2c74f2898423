-- Laws of labels that are spread, and of chains of corners. Assumes nothing.
pub mod Spreading
pub mod Corners
pub mod Touching
