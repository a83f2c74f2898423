-- What the C functions are asked that give a mesh. (What those that read answer stands in crate reading_c.)
pub mod Torn
