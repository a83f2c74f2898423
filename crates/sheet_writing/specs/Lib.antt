-- Sheets written in the second edition: what a writer is handed, answers and leaves, and helpers of contracts.
pub mod Writing
pub mod Work
