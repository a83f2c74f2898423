-- The laws of runs of words that are the columns of an image.
pub mod Columns
pub mod Lists
pub mod Whole
