-- One torn edge cracked, over the lent blocks.
pub mod Tried
pub mod Cracks
