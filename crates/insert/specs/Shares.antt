-- Shares of masses, read off the blocks. Only contracts between workers need this file. Definitions only.
use Rattle.std.specs.Prelude.{ℕ, ◌+◌, ◌*◌, ◌/◌, ◌<◌, ◌≡◌, Bool, ◌&&◌, List, map, length, get_or, Float}
use Rattle.std.specs.Float.{nan}
use Rattle.std.specs.Float.Ieee.{lt}
use Rattle.lists.specs.Lists.{pick, stands, sift}
use Rattle.float.specs.Numbers.{zero32, share_of}
use Rattle.model.specs.Mesh.{Edge, Mesh}
use Rattle.model.specs.Elements.{structural?, ends_of, sum}
use Rattle.model.specs.Cut.{strap_share}
use Rattle.mesh.specs.At.{particles_at, edges_at}
use Rattle.mesh.specs.Workers.{row_at}
use Rattle.mesh.specs.Widths.{point_columns}

-- is e a structural edge at v
abbrev pub strap_at : ℕ → Edge → Bool
strap_at v e = structural? e && stands v (ends_of e)

-- r tells it of edge i, whatever stands in the other block
pub record StrapTold (v i : ℕ) (ends : List ℕ) (r : Bool) : Type 0 where
  pub is : (lengths : List Float) → r ≡ strap_at v (row_at ends lengths i)

-- the initial lengths of the structural edges at v, added in edge order
unfoldable pub total_at_of : ℕ → List Edge → Float
total_at_of v es = sum (map (λ (e : Edge). e.initial) (sift (λ (e : Edge). structural? e && stands v (ends_of e)) es))

-- a mesh whose particles and edges stand at the fronts of these blocks
pub record Stands (M : Mesh) (n e : ℕ) (points : List Float) (roots ends : List ℕ) (lengths : List Float) : Type 0 where
  pub particles_are : M.particles ≡ particles_at n points roots
  pub edges_are : M.edges ≡ edges_at e ends lengths

-- v's mass times len by the total, as it is read off the block; none where the total is not above 0
abbrev pub share_by : ℕ → Float → Float → List Float → Float
share_by v len total points = pick (lt zero32 total) (share_of (get_or points (4 * (length points / point_columns) + v) nan) len total) zero32

-- r is the share of v's mass that a strap of length len has, in every mesh that stands there
pub record ShareIs (v : ℕ) (len : Float) (e : ℕ) (points : List Float) (ends : List ℕ) (lengths : List Float) (r : Float) : Type 0 where
  pub is : (M : Mesh) (n : ℕ) (roots : List ℕ) → Stands M n e points roots ends lengths → v < n → r ≡ strap_share M v len
