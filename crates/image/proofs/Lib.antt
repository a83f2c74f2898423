-- The laws of words in bytes, of an image's sizes, and of one that is loaded; of a small image.
pub mod Words
pub mod Sizes
pub mod Fronts
pub mod Loading
pub mod InBlocks
pub mod Smallness
