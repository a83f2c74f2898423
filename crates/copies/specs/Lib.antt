-- What copies of particles and edges in a split hold.
pub mod Particles
pub mod Ends
