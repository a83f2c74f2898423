-- Laws of counts, of the walk, and of the table that it goes through. Assumes nothing.
pub mod Tallies
pub mod Rowing
pub mod Queues
pub mod Walks
pub mod Tables
pub mod Opening
pub mod Lent
pub mod Reached
