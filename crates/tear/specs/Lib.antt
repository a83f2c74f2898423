-- One way to open a torn edge, over the lent blocks.
pub mod Loads
pub mod Families
pub mod Ways
pub mod Tears
pub mod Torn
pub mod Tried
pub mod Pairs
