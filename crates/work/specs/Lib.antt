-- What a worker over the lent blocks asks and promises.
pub mod Ran
pub mod Working
pub mod Places
pub mod Rows
pub mod Removal
pub mod Blocks
