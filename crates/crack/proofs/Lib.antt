-- A crack across torn edges: its laws and its proofs.
pub mod BodyLaws
pub mod ListedLaws
