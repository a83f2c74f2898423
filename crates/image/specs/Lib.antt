-- A mesh as one run of bytes.
pub mod Words
pub mod Image
pub mod Loads
pub mod Small
