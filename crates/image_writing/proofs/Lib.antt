-- The laws of words that are put into bytes, and of the rows that an image is stored from.
pub mod Left
pub mod Puts
pub mod Stored
pub mod Encoded
pub mod Rows
