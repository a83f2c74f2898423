-- Laws of tables of corners, of parent tables, of marks, and of bodies by tables. Assumes nothing.
pub mod Corners
pub mod Parents
pub mod Trees
pub mod Marks
pub mod Spans
