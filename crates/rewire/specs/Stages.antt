-- The stages of a split behind the particles, each the model's equation on one list. Only contracts between workers need this file. Definitions only.
use Rattle.std.specs.Prelude.{ℕ, ◌/◌, ◌<◌, ◌≤◌, ◌≡◌, List, map, length, get_or, Float, Option}
use Rattle.model.specs.Mesh.{Mesh}
use Rattle.model.specs.Elements.{Kind, Triangles, Straps}
use Rattle.model.specs.Split.{Opening, rewired_triangles, rewired_straps, other_edges}
use Rattle.mesh.specs.At.{triangles_at, edges_at}
use Rattle.mesh.specs.Widths.{corner_columns, end_columns}
use Rattle.split_plan.specs.Opened.{Numbered, OpeningIn}
use Rattle.work.specs.Rows.{GrownTo}

-- ---- elements

-- an opening at v with so many particles before it, whose parts' numbers and groups these are
pub record PartsBy (O : Opening) (v before n : ℕ) (numbers groups : List ℕ) : Type 0 where
  pub at : O.v ≡ v
  pub before_is : O.before ≡ before
  pub numbered : Numbered O n numbers
  pub size : length O.fan ≡ n
  pub group_is : (i : ℕ) → i < n → get_or (map (λ (p : _). p.group) O.fan) i 0 ≡ get_or groups i 0

-- the triangles of the fan have their groups' copies for v
pub record TrianglesRewired (v before n : ℕ) (numbers groups corners corners' : List ℕ) : Type 0 where
  pub triangles :
      (O : Opening) (t : ℕ) (volumes : List Float) → PartsBy O v before n numbers groups → t ≤ length corners / corner_columns
      → triangles_at t corners' volumes ≡ rewired_triangles Triangles O (triangles_at t corners volumes)

-- the straps of the fan have their groups' copies for v
pub record StrapsRewired (v before n : ℕ) (numbers groups ends ends' : List ℕ) : Type 0 where
  pub straps :
      (O : Opening) (e : ℕ) (lengths : List Float) → PartsBy O v before n numbers groups → e ≤ length ends / end_columns
      → edges_at e ends' lengths ≡ rewired_straps Straps O (edges_at e ends lengths)

-- ---- other edges

-- the other edges at v stay in the lowest of their groups, and their copies stand behind the edges
pub record EdgesGrown (K : Kind) (v before k n count p e room : ℕ) (verts groups : List ℕ) (points : List Float) (ends ends' : List ℕ) (lengths lengths' : List Float) (r : Option ℕ) : Type 0 where
  pub edges :
      (O : Opening) (M : Mesh) → OpeningIn O M v before k n count p verts groups points
      → GrownTo r room (other_edges K M O (edges_at e ends lengths)) (λ m. edges_at m ends' lengths')
