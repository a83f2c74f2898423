-- The laws of the checks, and what an accepted input tells.
pub mod Joined
pub mod Wide
pub mod Fine
pub mod Checked
pub mod Refusals
pub mod Accepted
