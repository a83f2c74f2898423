-- Laws of edition 2. Assumes nothing.

-- what a chain of tests comes to
pub mod Picks
-- sums and products of whole numbers, and their order
pub mod Ring
pub mod Order
-- equal by the laws of a ring, by computing
pub mod Solve
-- floats that are whole numbers, in order
pub mod Compare
-- which floats are whole numbers
pub mod Wholes
-- the answers by signs are exact
pub mod Exactly
-- the blade drawn the other way
pub mod Swapped
-- small cases, computed
pub mod Worked
-- what a crossing means
pub mod Meant
pub mod Shared
