-- The laws of elements in tables. Assumes nothing.
pub mod Found
pub mod Tables
pub mod Filling
pub mod Fans
pub mod Measures
pub mod Held
