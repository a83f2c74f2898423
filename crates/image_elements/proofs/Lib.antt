-- The laws of a table that is filled from the words of an image, and of the mesh whose elements stand in it.
pub mod Rows
pub mod Whole
