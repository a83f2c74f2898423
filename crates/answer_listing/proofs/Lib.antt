-- The laws of the listing of an answer.
pub mod Lengths
pub mod Counting
pub mod Texts
