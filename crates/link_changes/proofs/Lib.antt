-- Laws of the table of links where one cell changes.
pub mod Slots
pub mod Chained
pub mod Appended
pub mod Corners
pub mod Dropped
pub mod Edged
