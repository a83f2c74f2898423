-- Laws of fans walked by the table of links.
pub mod Fanned
