-- Laws of what the boundary becomes in a split.
pub mod BoundaryLaws
pub mod FacetLaws
