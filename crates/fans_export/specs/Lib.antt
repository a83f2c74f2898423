-- What the functions that are compared promise.
pub mod Parts
