-- Laws of two lists of rows walked along together.
pub mod Walking
