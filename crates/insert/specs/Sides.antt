-- The boundary of an insertion, over the outline. Only contracts between workers need this file. Definitions only.
use Rattle.std.specs.Prelude.{ℕ, ◌/◌, ◌<◌, ◌≡◌, List, map, ◌++◌, length, set, Option}
use Rattle.lists.specs.Lists.{each}
use Rattle.model.specs.Mesh.{Side}
use Rattle.model.specs.Cut.{shortened, appended}
use Rattle.mesh.specs.At.{side_row, boundary_at}
use Rattle.mesh.specs.Widths.{side_columns}
use Rattle.work.specs.Rows.{GrownTo, Between}

-- entry i of m is `new`, and more entries stand behind the m
pub record EntryGrown (new : Side) (more : List Side) (i m room : ℕ) (outline outline' : List ℕ) (r : Option ℕ) : Type 0 where
  pub sides : GrownTo r room (set (boundary_at m outline) i new ++ more) (λ q. boundary_at q outline')
  pub others : (j : ℕ) → j < m → (j ≡ i → ⊥) → side_row (length outline' / side_columns) outline' j ≡ side_row (length outline / side_columns) outline j
  pub between : Between m room r

-- each of n entries is shortened, and what is appended for each stands behind them
pub record SidesInserted (a b p q n room : ℕ) (outline outline' : List ℕ) (r : Option ℕ) : Type 0 where
  pub sides : GrownTo r room (map (shortened a b p q) (boundary_at n outline) ++ each (appended a b p q) (boundary_at n outline)) (λ m. boundary_at m outline')
  pub between : Between n room r
