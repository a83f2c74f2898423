-- The laws of the blocks of a mesh.
pub mod Columns
pub mod Lists
pub mod Fan
pub mod Blocks
pub mod Agree
pub mod Refused
