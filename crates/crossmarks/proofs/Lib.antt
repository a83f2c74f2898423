-- Laws of the marks of crossings.
pub mod NotingLaws
