-- A history told by what the entries promise.
pub mod Entries
