-- The ends, corners and boundary entries that stand in lent blocks name particles. Only contracts between workers need this file. Definitions only.
use Rattle.std.specs.Prelude.{ℕ, ◌/◌, ◌<◌, List, length}
use Rattle.columns.specs.Block.{cell}
use Rattle.mesh.specs.Widths.{corner_columns, end_columns, side_columns}

-- the ends of the first e edges, and of the first b boundary entries, are among p particles
pub record EndsIn (p e : ℕ) (ends : List ℕ) : Type 0 where
  pub first : (j : ℕ) → j < e → cell 0 (length ends / end_columns) ends 0 j < p
  pub second : (j : ℕ) → j < e → cell 0 (length ends / end_columns) ends 1 j < p

pub record SidesIn (p b : ℕ) (outline : List ℕ) : Type 0 where
  pub first : (j : ℕ) → j < b → cell 0 (length outline / side_columns) outline 0 j < p
  pub second : (j : ℕ) → j < b → cell 0 (length outline / side_columns) outline 1 j < p

-- the corners of the first t triangles are among p particles
pub record CornersIn (p t : ℕ) (corners : List ℕ) : Type 0 where
  pub first : (j : ℕ) → j < t → cell 0 (length corners / corner_columns) corners 0 j < p
  pub second : (j : ℕ) → j < t → cell 0 (length corners / corner_columns) corners 1 j < p
  pub third : (j : ℕ) → j < t → cell 0 (length corners / corner_columns) corners 2 j < p
