-- A question to a mesh, and what contracts between functions need: a list that is cut down, when an image is tiny, and what is asked of one whose elements answer.
pub mod Questions
pub mod Capped
pub mod Tiny
pub mod Elements
