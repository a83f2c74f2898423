-- The fan of a particle, told by the numbers of its elements: what reviewers must believe is in Fans; Work only contracts between workers need.
pub mod Fans
pub mod Work
