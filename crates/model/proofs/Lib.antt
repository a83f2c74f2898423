-- The cases that the definitions are computed on: some of every kind, which each edit that must fail meets. (More of them: crate model_cases; theorems: crate model_laws.)

-- the starred cases in one statement, and the worked meshes
pub mod Starred
-- the published Rust's answers, computed
pub mod Asked
pub mod CaseGroups
pub mod CaseSplits
pub mod CaseCuts
pub mod CaseStraps
pub mod CaseLoads
pub mod CaseReads
