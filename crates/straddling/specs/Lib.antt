-- Straddlers: what their tests and their list ask and give.
pub mod Tests
pub mod Putting
pub mod Listing
