-- Laws of the differences of two whole sheets.
pub mod Fitting
pub mod Lengths
pub mod Longest
pub mod Printed
pub mod Worked
pub mod Wholes
