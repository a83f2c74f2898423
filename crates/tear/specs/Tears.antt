-- What a torn edge leaves behind its split. Only contracts between workers need this file. Definitions only.
use Rattle.std.specs.Prelude.{ℕ, ◌+◌, ◌-◌, ◌/◌, ◌<◌, ◌≤◌, ◌≡◌, Bool, ◌&&◌, List, [], ◌∷◌, map, length, Float}
use Rattle.lists.specs.Lists.{pick, stands, any, map_at_of, up_to}
use Rattle.model.specs.Mesh.{Edge}
use Rattle.model.specs.Cut.{slack}
use Rattle.model.specs.Crack.{hurt}
use Rattle.mesh.specs.At.{particles_at, edges_at}
use Rattle.mesh.specs.Widths.{root_columns}
use Rattle.straddling.specs.Tests.{copies_by}

-- is the edge (a, b) between `other` and v or a copy of it: `bridges` of an opening at v, with so many particles before it, of so many groups
unfoldable pub bridges_by : ℕ → ℕ → ℕ → ℕ → ℕ → ℕ → Bool
bridges_by v before count other a b = stands other (a ∷ b ∷ []) && any (λ x. stands x (copies_by v before count)) (a ∷ b ∷ [])

-- an edge behind the split
abbrev pub slack_by : ℕ → ℕ → ℕ → ℕ → Edge → Edge
slack_by v before count other e = pick (bridges_by v before count other e.a e.b) (slack e) e

-- the bridges among the first e edges are slack
pub record Slackened (v before count other e : ℕ) (ends : List ℕ) (lengths lengths' : List Float) : Type 0 where
  pub edges : edges_at e ends lengths' ≡ map (slack_by v before count other) (edges_at e ends lengths)

-- x, y and the copies stand in the block
pub record DamageRoom (x y before count lr : ℕ) : Type 0 where
  pub x_in : x < lr / root_columns
  pub y_in : y < lr / root_columns
  pub some : 1 ≤ count
  pub copies_in : before + count - 1 ≤ lr / root_columns

-- the copies of a split, of so many groups behind so many particles: `made` of its opening
abbrev pub made_by : ℕ → ℕ → List ℕ
made_by before count = map (λ g. before + g) (up_to (count - 1))

-- x, y and the copies are damaged, for any number of particles and whatever stands in the other block
pub record Damaged (x y before count : ℕ) (roots roots' : List ℕ) : Type 0 where
  pub particles :
      (n : ℕ) (points : List Float) → n ≤ length roots / root_columns
      → particles_at n points roots' ≡ map_at_of (λ i p. pick (stands i (x ∷ y ∷ made_by before count)) (hurt p) p) (particles_at n points roots)
