-- What mending leaves in lent bytes, and helpers of contracts.
pub mod Answers
pub mod Work
