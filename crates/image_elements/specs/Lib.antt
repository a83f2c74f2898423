-- The room that a table of an image's elements asks for.
pub mod Room
