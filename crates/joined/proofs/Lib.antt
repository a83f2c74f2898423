-- A history told by contracts is a history of the definitions.
pub mod Join
pub mod Histories
pub mod Again
