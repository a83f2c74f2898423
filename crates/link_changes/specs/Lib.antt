-- The table of links where one cell changes.
pub mod Changes
