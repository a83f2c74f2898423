-- What the numeric leaves mean.
pub mod Numbers
pub mod Ranges
pub mod Root
pub mod Order
pub mod Whole
