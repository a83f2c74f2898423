-- The laws of the program from bytes to bytes.
pub mod Answering
pub mod Reading
pub mod Cutting
pub mod Longest
pub mod Replaced
pub mod Marked
pub mod Worked
