-- An image stored from blocks.
pub mod Stores
