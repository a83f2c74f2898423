-- Labels that are spread in a table, and the places of corners in chains: only proofs need them.
pub mod Spread
pub mod Corners
