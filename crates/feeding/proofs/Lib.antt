-- The laws of a reader that is fed in parts.
pub mod Bytes
pub mod Steps
pub mod Long
pub mod Cuts
pub mod Worked
