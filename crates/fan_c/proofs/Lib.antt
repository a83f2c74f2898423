-- The laws of a fan told by numbers.
pub mod Fanning
