-- Theorems on the definitions of crate model.

-- laws of lists
pub mod Laws
-- rows of different particles
pub mod Rows
-- nothing reads the marks of a cut's crossings
pub mod Marks
-- what every rule of a blade gives
pub mod Rules
-- a run of splits keeps the triangles: sound, and traced back the same; and every copy belongs to one
pub mod Traced
pub mod Holding
-- when a particle splits: pinned and single elements stay, two groups at a free particle do split
pub mod Splitting
-- the same for every call; a mesh of nothing stays unchanged
pub mod Kept
pub mod Nothing
-- which numbers have a root
pub mod Roots
-- the first step that lacks room decides
pub mod Steps
-- `toward` is the source's `group_toward`
pub mod Toward
-- every call gives a mesh whose indices and roots are accepted again
pub mod Indexed
pub mod Inserted
pub mod Accepted
-- whole coordinates stay whole through a cut
pub mod Whole
-- on whole coordinates the signs of rounded offsets decide edition 2
pub mod Exactly
-- what a hit carries, on whole points, does not turn with the line
pub mod Turned
-- edition 2 along a line and along the same line drawn the other way
pub mod Swapped
