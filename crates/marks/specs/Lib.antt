-- Marks of particles, and the sides of a fan by the blade.
pub mod Marking
pub mod Sided
pub mod Signed
