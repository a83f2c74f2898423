-- The crate's definitions. What a reader must believe: Fan, Grouping, Calls and Cases. Groups computes the same. Parts only proofs need.
pub mod Fan
pub mod Grouping
pub mod Groups
pub mod Calls
pub mod Cases
pub mod Parts
