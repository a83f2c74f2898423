-- Laws of workers over the lent blocks.
pub mod Runs
pub mod Placed
pub mod Grows
pub mod Removals
pub mod Bits
