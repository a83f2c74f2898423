-- One insertion into a strap, over the lent blocks.
pub mod Shares
pub mod Plans
pub mod Sides
pub mod Inserts
pub mod Steps
pub mod Tables
