-- Sheets of either edition: their meaning and what reading one leaves; Work only contracts between workers need.
pub mod Edition
pub mod Reading
pub mod Work
