-- What a mesh is, and what every operation of the bench does to it. To be read in this order.

-- what a mesh holds
pub mod Mesh
-- which meshes are accepted: refusals 2 and 3
pub mod Valid
-- kinds, elements, measures and fans
pub mod Elements
-- the split of a particle by the groups of its fan
pub mod Split
-- pieces, straddlers across them, and the reach of a group
pub mod Pieces
-- the cut along a blade
pub mod Cut
-- cracks across torn edges
pub mod Crack
-- a call at work: steps, the log, and the room that each step needs
pub mod Run
-- the numbers of refusals
pub mod Refusals
-- the calls that give a mesh: refusals 1 to 8, then the mesh and the log
pub mod Calls
-- a cut's line drawn the other way
pub mod Swaps
-- the calls that only read
pub mod Reads
-- the words of the theorems on triangles: traced back, and every copy held
pub mod Trace
-- the starred cases of docs/RULES.md (R15), and the worked meshes
pub mod Starred
