-- A split to be made, in tables.
pub mod Opened
pub mod Answers
