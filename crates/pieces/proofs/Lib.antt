-- Laws of tops and of facets in chains. Assumes nothing.
pub mod Tops
pub mod FacetChains
