-- Laws of one insertion into a strap.
pub mod Walks
pub mod ShareLaws
pub mod PlanLaws
pub mod Passes
pub mod SideLaws
pub mod StoreLaws
pub mod InsertLaws
pub mod TableLaws
pub mod StepLaws
