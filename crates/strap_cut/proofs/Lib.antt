-- Laws of the cut of straps, and of the cut by kind.
pub mod SegmentLaws
pub mod CrossedStart
pub mod SegmentRuns
pub mod KindLaws
