-- What the workers of a call ask.
pub mod Asks
