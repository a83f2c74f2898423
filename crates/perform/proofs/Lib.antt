-- The laws of a call performed. Assumes nothing.
pub mod Performed
pub mod Worked
pub mod PassedBy
