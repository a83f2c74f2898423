-- Helpers of contracts on rows read into blocks.
pub mod Work
