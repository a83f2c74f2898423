-- The laws of a question to a mesh and to its image, of the sides, groups and lists beside it, of a tiny image, and of one whose elements stand in a table.
pub mod Siding
pub mod Grouping
pub mod Listing
pub mod Asking
pub mod Answering
pub mod Tininess
pub mod Tabling
