-- A split over the lent blocks: its laws and its proofs.
pub mod Below
pub mod Fitted
pub mod FanLaws
pub mod Stepping
pub mod GrowLaws
pub mod NamedLaws
pub mod Longest
pub mod StepLaws
pub mod TabledLaws
pub mod LinkLaws
pub mod NoteLaws
pub mod OutlineLaws
pub mod SettleLaws
pub mod PartLaws
