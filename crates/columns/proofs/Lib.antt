-- The laws of columns, of blocks, and of the rows that they are read as.
pub mod Rows
pub mod Keep
pub mod Sweep
pub mod Cells
pub mod Blocks
pub mod RowLaws
