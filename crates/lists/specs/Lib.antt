-- The words that the definitions of the bench are written in.
pub mod Lists
pub mod Chain
pub mod Labels
pub mod LeftOut
