-- Laws of the words on lists: of truth values, chains, tables and stores, tests on lists and their steps, walks, rows, and labels. Assumes nothing.
pub mod Truths
pub mod Chains
pub mod Stores
pub mod Sifts
pub mod Rows
pub mod Steps
pub mod Walks
pub mod Labelled
pub mod Risen
