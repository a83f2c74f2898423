-- Listed edges that go.
pub mod Drops
pub mod Parted
