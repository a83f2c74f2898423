pub mod Putting
pub mod Agree
pub mod Trips
pub mod Undo
