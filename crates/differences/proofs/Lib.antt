-- Laws of differences and of their lines.
pub mod Places
pub mod Meanings
pub mod Writing
