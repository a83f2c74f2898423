-- One torn edge cracked: its laws and its proofs.
pub mod OpenLaws
