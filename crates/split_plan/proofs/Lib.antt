-- Laws of openings in tables.
pub mod Rings
pub mod Weights
pub mod Towards
pub mod Tables
