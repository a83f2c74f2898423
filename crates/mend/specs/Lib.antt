-- What the program prints, and the sheet that it writes.
pub mod Printing
