-- What an end of an edge that is moved promises: only proofs and contracts between workers need it. Definitions only.
use Rattle.std.specs.Prelude.{ℕ, ◌/◌, ◌<◌, ◌≡◌, List, length, Float}
use Rattle.model.specs.Split.{moved}
use Rattle.mesh.specs.Workers.{row_at}
use Rattle.mesh.specs.Widths.{end_columns}

-- edge i has w for v, and no other row changed
pub record EndsMoved (i v w : ℕ) (ends ends' : List ℕ) : Type 0 where
  pub here : (lengths : List Float) → row_at ends' lengths i ≡ moved v w (row_at ends lengths i)
  pub others : (lengths : List Float) (j : ℕ) → j < length ends / end_columns → (j ≡ i → ⊥) → row_at ends' lengths j ≡ row_at ends lengths j
