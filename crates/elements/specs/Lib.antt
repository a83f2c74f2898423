-- The elements of a mesh in tables.
pub mod Table
pub mod Workers
