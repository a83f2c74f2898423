-- The number of the layout, and texts through C.
pub mod Texts
