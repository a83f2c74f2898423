-- Laws of marks of particles, and of the sides of a fan.
pub mod MarkLaws
pub mod SideLaws
pub mod SignLaws
