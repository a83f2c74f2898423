-- Edition 2: crossings and sides decided exactly, on whole coordinates.
pub mod Exact
-- how the program decides them, by the signs of rounded offsets
pub mod Signs
-- what a crossing means
pub mod Meant
