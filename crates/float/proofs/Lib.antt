-- Laws of the numeric leaves. Assumes nothing.
pub mod Squares
pub mod Scaling
pub mod Patterns
pub mod Picks
pub mod Values
pub mod Units
pub mod Unique
pub mod Signs
pub mod OrderLaws
pub mod Products
pub mod Exact
pub mod Error
pub mod Computed
pub mod Limits
pub mod Share
