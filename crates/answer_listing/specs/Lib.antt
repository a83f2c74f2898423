-- The listing of an answer.
pub mod Listed
