-- The reply to a job on an image.
pub mod Outcomes
pub mod Told
