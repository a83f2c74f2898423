-- The words beside an image.
pub mod Rooms
