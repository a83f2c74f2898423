-- The cut along a blade, over the lent blocks.
pub mod Running
