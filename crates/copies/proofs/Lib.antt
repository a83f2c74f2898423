-- Laws of copies of particles and edges in a split.
pub mod ParticleLaws
pub mod RowLaws
