-- A split, step by step, over the lent blocks.
pub mod Grew
pub mod Tables
pub mod Steps
pub mod Growing
pub mod Settling
pub mod Linking
pub mod Blocks
