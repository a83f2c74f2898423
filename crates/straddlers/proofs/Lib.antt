-- Laws of the removal of straddlers across pieces.
pub mod PieceMasks
pub mod PieceTables
pub mod Straddled
