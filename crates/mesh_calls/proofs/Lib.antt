-- The laws of the calls that give a mesh. Assumes nothing.
pub mod Jobs
pub mod Asked
pub mod Fanned
pub mod Editions
