-- The checks that refuse an input mesh.
pub mod Checks
pub mod Told
