-- What a reader must believe is in Counted; Sides only proofs need.
pub mod Counted
pub mod Sides
