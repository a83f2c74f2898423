-- The cases that the definitions are computed on, besides those of crate model.

-- the editions of the cut, computed
pub mod WorkedEditions
-- the published Rust's answers, computed
pub mod CaseGrid
pub mod CaseCracks
pub mod CaseTriangleCracks
pub mod CaseRefusals
pub mod CaseRooms
