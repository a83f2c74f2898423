-- A reader that is closed by a host: what reviewers must believe is in Closing.
pub mod Closing
