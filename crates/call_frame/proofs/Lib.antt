-- The laws of a call's frame.
pub mod Begun
pub mod Ended
pub mod Calls
pub mod Front
