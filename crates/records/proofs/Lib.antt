-- The laws of the entry on a run of records. Assumes nothing.
pub mod Answered
