-- Numbers beside a mesh.
pub mod Beside
