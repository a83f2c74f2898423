-- Laws of straddlers.
pub mod HeldLaws
pub mod StraddlerLaws
pub mod PutLaws
pub mod ListLaws
