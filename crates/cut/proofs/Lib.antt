-- Laws of the cut along a blade.
pub mod RunLaws
pub mod FanSides
pub mod CutLaws
pub mod SnapLaws
