pub mod RowPuts
pub mod RowReads
pub mod MeshReads
