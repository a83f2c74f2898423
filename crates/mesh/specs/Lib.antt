-- Seven blocks of columns read as a mesh, the log beside them, and what a call fills.
pub mod Widths
pub mod Limits
pub mod At
pub mod Log
pub mod Given
pub mod Filled
pub mod Blocks
pub mod Workers
pub mod Refused
