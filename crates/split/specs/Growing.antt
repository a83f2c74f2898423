-- Parts 1 to 3 of a split in their steps: elements rewired, and masses shared out. Only contracts between workers need this file. Definitions only.
use Rattle.std.specs.Prelude.{ℕ, ◌+◌, ◌-◌, ◌/◌, ◌<◌, ◌≤◌, ◌≡◌, true, List, length, get_or, Float}
use Rattle.columns.specs.Block.{cell}
use Rattle.model.specs.Elements.{Kind, Triangles, Straps}
use Rattle.model.specs.Split.{Opening, copied, rewired_triangles, rewired_straps}
use Rattle.mesh.specs.At.{particles_at, triangles_at, edges_at}
use Rattle.mesh.specs.Widths.{point_columns, corner_columns, end_columns, root_columns}
use Rattle.split_plan.specs.Opened.{Weighted}
use Rattle.split_plan.specs.Answers.{Grouped}
use Rattle.links.specs.Links.{holds}
use Rattle.rewire.specs.Stages.{PartsBy}

-- the straps that the tables name are structural edges at v
pub record StrapsNamed (K : Kind) (v n : ℕ) (numbers ends : List ℕ) : Type 0 where
  pub structural : K ≡ Straps → (i : ℕ) → i < n → cell 0 (length ends / end_columns) ends 2 (get_or numbers i 0) ≡ 1
  pub holding : K ≡ Straps → (i : ℕ) → i < n → holds 2 (cell 0 (length ends / end_columns) ends) v (get_or numbers i 0) ≡ true

-- the first n numbers rise and name triangles of a block of lc places, or straps among e edges, and the copies of their groups are small
pub record ElementsRoom (K : Kind) (before n lc e : ℕ) (numbers groups : List ℕ) : Type 0 where
  pub some : 0 < before
  pub numbers_long : n ≤ length numbers
  pub groups_long : n ≤ length groups
  pub rising : (i j : ℕ) → i < j → j < n → get_or numbers i 0 < get_or numbers j 0
  pub in_triangles : K ≡ Triangles → (i : ℕ) → i < n → get_or numbers i 0 < lc / corner_columns
  pub in_edges : K ≡ Straps → (i : ℕ) → i < n → get_or numbers i 0 < e
  pub small : (i : ℕ) → i < n → before + get_or groups i 0 ≤ 65536

-- the elements of the fan have their groups' copies for v, in the list of their kind
pub record ElementsRewired (K : Kind) (v before n : ℕ) (numbers groups corners corners' ends ends' : List ℕ) : Type 0 where
  pub triangles :
      (O : Opening) (t : ℕ) (volumes : List Float) → PartsBy O v before n numbers groups → t ≤ length corners / corner_columns
      → triangles_at t corners' volumes ≡ rewired_triangles K O (triangles_at t corners volumes)
  pub edges :
      (O : Opening) (e : ℕ) (lengths : List Float) → PartsBy O v before n numbers groups → e ≤ length ends / end_columns
      → edges_at e ends' lengths ≡ rewired_straps K O (edges_at e ends lengths)

-- a copy of v for each group but the first has room behind so many particles, in blocks of lp and lr places, and each of n elements has a group and a measure
pub record ShareRoom (v before n count lg lm lp lr : ℕ) : Type 0 where
  pub here : v < before
  pub two : 2 ≤ count
  pub few : count ≤ 2048
  pub groups_long : n ≤ lg
  pub measures_long : n ≤ lm
  pub points : before + count - 1 ≤ lp / point_columns
  pub roots : before + count - 1 ≤ lr / root_columns

-- v has the mass of group 0, and the copies stand behind the particles
pub record SharedOut (v before n count : ℕ) (groups : List ℕ) (measures points points' : List Float) (roots roots' : List ℕ) : Type 0 where
  pub particles :
      (O : Opening) → O.v ≡ v → O.count ≡ count → Grouped O n groups → Weighted O n measures
      → particles_at (before + count - 1) points' roots' ≡ copied O (particles_at before points roots)
