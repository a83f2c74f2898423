-- Laws of the mender over bytes. Assumes nothing.
pub mod Puts
pub mod Judging
pub mod Whole
pub mod Joined
pub mod Done
pub mod Agree
pub mod Lengths
pub mod Ends
