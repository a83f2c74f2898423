-- The laws of replies.
pub mod Saying
