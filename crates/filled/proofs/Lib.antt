-- What filled blocks hold.
pub mod Cells
pub mod Held
