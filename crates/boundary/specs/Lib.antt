-- What the boundary becomes in a split.
pub mod Following
pub mod Faces
