-- What elements and other edges become in a split, as the workers promise it.
pub mod Stages
pub mod Parts
pub mod Edges
