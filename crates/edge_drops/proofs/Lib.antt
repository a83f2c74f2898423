-- Laws of listed edges that go.
pub mod DropLaws
pub mod PartedLaws
