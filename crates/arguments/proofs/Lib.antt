-- The laws of arguments. Assumes nothing.
pub mod Rising
pub mod Judged
