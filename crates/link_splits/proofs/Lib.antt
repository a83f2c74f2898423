-- Laws of the table of links in a split.
pub mod Moved
pub mod Turned
