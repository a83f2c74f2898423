-- The laws of accepted meshes and of their tables. Assumes nothing.
pub mod Accepted
pub mod Cornering
pub mod Summing
pub mod FanLaws
pub mod FanRead
pub mod Checked
