-- What differs of two sheets, and its text: what reviewers must believe is in Differences; Work only contracts between workers, and theorems, need.
pub mod Differences
pub mod Work
