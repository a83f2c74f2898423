-- The laws of replies (any two agree: Agree) and of jobs.
pub mod Entries
pub mod Cuttings
pub mod Agree
