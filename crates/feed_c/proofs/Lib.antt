-- The laws of a close, and that it gives what the whole sheet gives.
pub mod Closes
pub mod Cuts
