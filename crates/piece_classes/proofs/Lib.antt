-- Laws of distinct numbers, of classes, of bodies and of pieces; small meshes. Assumes nothing.
pub mod Distinct
pub mod Counts
pub mod Laws
pub mod Pieces
pub mod Examples
