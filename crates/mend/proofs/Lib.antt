-- Laws of the program's ends. Assumes nothing.
pub mod Ending
