-- The crossings of a blade, in two tables. Only contracts between workers need this file. Definitions only.
use Rattle.std.specs.Prelude.{ℕ, ◌+◌, ◌/◌, ◌<◌, ◌≤◌, ◌≡◌, List, [], ◌++◌, length, get_or, Float}
use Rattle.std.specs.Float.{nan}
use Rattle.lists.specs.Lists.{pick, tab}
use Rattle.blade.specs.declared.Point.{Point}
use Rattle.blade.specs.declared.Hit.{Hit}
use Rattle.model.specs.Mesh.{Mesh}
use Rattle.model.specs.Elements.{structural?}
use Rattle.model.specs.Cut.{Crossing, crossing_at, meets, crossings}
use Rattle.mesh.specs.Workers.{row_at}
use Rattle.mesh.specs.Widths.{point_columns, end_columns}
use Rattle.mesh.specs.Limits.{edge_limit}
use Rattle.insert.specs.Shares.{Stands}
use Rattle.marks.specs.Marking.{blade_from}
use Rattle.crossing.specs.Bends.{EndsBelow}

-- edge i and both its ends have places
pub record HitRoom (i lp : ℕ) (ends : List ℕ) : Type 0 where
  pub here : i < length ends / end_columns
  pub a_in : get_or ends i 0 < lp / point_columns
  pub b_in : get_or ends (length ends / end_columns + i) 0 < lp / point_columns

-- the hit on edge i, if it is a strap, in every mesh that stands there
pub record HitTold (b0 b1 : Point) (i : ℕ) (points : List Float) (ends : List ℕ) (r : Hit) : Type 0 where
  pub is :
      (M : Mesh) (n e : ℕ) (roots : List ℕ) (lengths : List Float) → Stands M n e points roots ends lengths → get_or ends i 0 < n → get_or ends (length ends / end_columns + i) 0 < n
      → crossing_at i r ≡ pick (structural? (row_at ends lengths i)) (crossing_at i (meets (blade_from b0 b1) M (row_at ends lengths i).a (row_at ends lengths i).b)) []

-- the crossings in the first m places of two tables
abbrev pub crossed_in : ℕ → List ℕ → List Float → List Crossing
crossed_in m numbers ts = tab m (λ j. record { number = get_or numbers j 0; t = get_or ts j nan })

-- a hit stands behind the m crossings
pub record HitNoted (hit : Hit) (i m : ℕ) (numbers numbers' : List ℕ) (ts ts' : List Float) (r : ℕ) : Type 0 where
  pub is : crossed_in r numbers' ts' ≡ crossed_in m numbers ts ++ crossing_at i hit
  pub least : m ≤ r
  pub most : r ≤ m + 1

-- the first e edges have their ends among the points, and a place in each table; their numbers are below 65,536
pub record CrossingsRoom (e lp : ℕ) (ends : List ℕ) (ln lt : ℕ) : Type 0 where
  pub ends_in : EndsBelow (lp / point_columns) e ends
  pub numbers_long : e ≤ ln
  pub ts_long : e ≤ lt
  pub few : e ≤ edge_limit

-- the crossings of the blade with every mesh that stands there
pub record CrossingsAre (b0 b1 : Point) (e : ℕ) (points : List Float) (ends numbers' : List ℕ) (ts' : List Float) (r : ℕ) : Type 0 where
  pub is :
      (M : Mesh) (n : ℕ) (roots : List ℕ) (lengths : List Float) → Stands M n e points roots ends lengths → EndsBelow n e ends
      → crossed_in r numbers' ts' ≡ crossings (blade_from b0 b1) M
  pub few : r ≤ e
