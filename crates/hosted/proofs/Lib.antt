-- A history told by what the C functions promise is a history of the definitions.
pub mod Done
pub mod Histories
