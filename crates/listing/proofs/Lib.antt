-- The laws of the listing and of its writer.
pub mod Decimal
pub mod Lengths
pub mod Entries
pub mod Worked
pub mod Appending
pub mod Replaced
pub mod Outcomes
