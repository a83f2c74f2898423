-- The laws of the entries that give a mesh. Assumes nothing.
pub mod Coming
