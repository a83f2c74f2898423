-- Mending through C.
pub mod Mends
