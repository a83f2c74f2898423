-- Laws of the straps that the blade crosses.
pub mod BendLaws
pub mod CrossingLaws
pub mod UnbentLaws
pub mod CrossedLaws
pub mod CrossedRuns
pub mod BendNumbers
