-- How columns and blocks are read as rows, and the chains of the corners.
pub mod Links
pub mod Rows
