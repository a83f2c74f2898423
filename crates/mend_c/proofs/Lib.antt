-- Laws of mending through C. Assumes nothing.
pub mod Replying
pub mod Agree
