-- The laws of an image that is read into blocks, and of the reply that is written from them.
pub mod Places
pub mod Shown
pub mod Tellings
