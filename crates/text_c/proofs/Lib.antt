-- Laws of a reply that is a text.
pub mod Texting
