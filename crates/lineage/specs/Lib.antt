-- What a history of a mesh is, and the words of the theorems on histories.

-- accepted calls, one behind the other, with the host at work between them
pub mod History
