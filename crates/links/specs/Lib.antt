-- The cells that hold each particle, in one table: heads and links.
pub mod Links
pub mod Rooms
pub mod Linked
