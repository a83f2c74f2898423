-- The laws of sheets that are replied to, and of fields that are written.
pub mod Sheeting
pub mod Signs
pub mod Fielding
pub mod Agree
pub mod Trips
