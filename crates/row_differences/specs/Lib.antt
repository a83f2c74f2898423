-- What contracts and theorems on two lists of rows in columns need.
pub mod Work
