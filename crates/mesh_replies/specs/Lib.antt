-- The reply of a call that gives a mesh.
pub mod Both
pub mod Told
