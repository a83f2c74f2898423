-- Laws of what elements and other edges become in a split.
pub mod FanLaws
pub mod EdgeLaws
pub mod LinkedLaws
