-- The calls that give a mesh.
pub mod Jobs
pub mod Fans
