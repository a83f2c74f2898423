-- An image read back.
pub mod Words
pub mod Packed
pub mod Held
