-- Laws of rows, of the chains of corners, and of two outlines compared.
pub mod Adding
pub mod Linking
pub mod Comparing
