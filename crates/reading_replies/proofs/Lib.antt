-- The laws of replies.
pub mod Replying
