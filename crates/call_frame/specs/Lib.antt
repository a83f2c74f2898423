-- What a call that gives a mesh answers and leaves in the lent blocks.
pub mod Answered
-- How it begins and ends.
pub mod Framed
