-- What a reader must believe is in Opens; Reached says what it means; Walk is for proofs alone.
pub mod Opens
pub mod Reached
pub mod Walk
