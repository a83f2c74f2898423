-- A history told by what the C functions promise.
pub mod Images
