-- What is known of an accepted mesh, and of the tables of its elements.
pub mod Accepted
pub mod Cornering
-- The fan of a particle, read from the columns.
pub mod Fans
