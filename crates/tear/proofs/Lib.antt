-- One way to open a torn edge: its laws and its proofs.
pub mod LinkLaws
pub mod LoadLaws
pub mod FamilyLaws
pub mod WayLaws
pub mod TearLaws
pub mod TornLaws
pub mod TriedLaws
pub mod PairLaws
pub mod TurnLaws
