-- Sheets: their meaning, and helpers of contracts.
pub mod Sheet
pub mod Read
pub mod Work
