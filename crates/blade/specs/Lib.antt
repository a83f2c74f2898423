-- Points, the blade test, and points with whole coordinates.
pub mod Points
pub mod Blade
pub mod Whole
pub mod Cases
