pub mod Laws
pub mod RowLaws
