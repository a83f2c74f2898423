-- The reply of a C function.
pub mod Reply
