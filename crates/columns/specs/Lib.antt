-- Columns and blocks of columns.
pub mod View
pub mod Block
