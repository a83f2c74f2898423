-- The listing of a cut: its bytes, and helpers of contracts.
pub mod Listing
pub mod Answers
pub mod Work
