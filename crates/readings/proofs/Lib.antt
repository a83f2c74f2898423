-- The laws of the entries that read. Assumes nothing.
pub mod Refusing
pub mod Grouped
pub mod Agree
