-- The differences of two sheets: what reviewers must believe is in Differed; Work only contracts between workers, and theorems, need.
pub mod Differed
pub mod Work
