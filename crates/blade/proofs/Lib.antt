-- Laws of the blade test, and the starred cases. Assumes nothing.
pub mod Sides
pub mod Fraction
pub mod Hits
pub mod Cases
