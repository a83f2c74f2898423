-- The fan of a particle, walked by the table of links.
pub mod Fans
