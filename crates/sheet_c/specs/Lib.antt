-- Sheets on their way to and from a host: what reviewers must believe is in Sheets and Fields; Work only contracts between workers need.
pub mod Sheets
pub mod Fields
pub mod Work
