-- Helpers that only the contracts of inner functions and their proofs need: a row copied, marked edges gone, corners rewired, a row's ends, and the room for it. No entry's statement names them.
use Rattle.std.specs.Prelude.{ℕ, ◌+◌, ◌/◌, ◌≤◌, ◌<◌, ◌≡◌, List, [], ◌∷◌, ◌++◌, length, get_or, eqb, Float}
use Rattle.lists.specs.Lists.{pick, keep, kept_of, map_at_of}
use Rattle.model.specs.Mesh.{Particle, Triangle, Edge, blank}
use Rattle.model.specs.Split.{weighed}
use Rattle.mesh.specs.At.{edge_row, triangles_at}
use Rattle.mesh.specs.declared.EdgeRow.{EdgeRow}
use Rattle.mesh.specs.Widths.{point_columns, corner_columns, end_columns, length_columns, root_columns}

-- the particles with a copy of v behind them, of mass m and inverse mass w
unfoldable pub with_copy : ℕ → Float → Float → List Particle → List Particle
with_copy v m w ps = ps ++ (weighed m w (get_or ps v blank) ∷ [])

-- the group of triangle k, for a fan of elements with their groups, or 0 where k is none of them
unfoldable pub group_of : List ℕ → List ℕ → ℕ → ℕ
group_of [] gs k = 0
group_of (e ∷ es) [] k = 0
group_of (e ∷ es) (g ∷ gs) k = pick (eqb e k) g (group_of es gs k)

-- a struct of the program as an edge of the mesh
abbrev pub edge_of : EdgeRow → Edge
edge_of r = record { a = r.a; b = r.b; structural = r.structural; torn = r.torn; rest = r.rest; initial = r.initial; impulse = r.impulse; stress = r.stress }

-- edge j of the blocks of edges
abbrev pub row_at : List ℕ → List Float → ℕ → Edge
row_at ends lengths j = edge_row (length ends / end_columns) (length lengths / length_columns) ends lengths j

-- n particles have room in blocks of lp and lr places
pub record ParticleRoom (n lp lr : ℕ) : Type 0 where
  pub points : n ≤ lp / point_columns
  pub roots : n ≤ lr / root_columns

-- n edges have room in blocks of le and ll places
pub record EdgeRoom (n le ll : ℕ) : Type 0 where
  pub ends : n ≤ le / end_columns
  pub lengths : n ≤ ll / length_columns

-- the marked edges are gone, and r are left
pub record Removed (mask : List ℕ) (n r : ℕ) (before after : List Edge) : Type 0 where
  pub count : r ≡ kept_of mask n
  pub edges : after ≡ keep mask before

-- the corners changed as g changes each triangle by its number, for any number of triangles and whatever stands in the other block
pub record Mapped (g : ℕ → Triangle → Triangle) (corners corners' : List ℕ) : Type 0 where
  pub triangles : (n : ℕ) (volumes : List Float) → n ≤ length corners / corner_columns → triangles_at n corners' volumes ≡ map_at_of g (triangles_at n corners volumes)

-- a fan that the corners hold: its elements are triangles, no two the same, with a group for each
pub record FanOk (n : ℕ) (elements groups : List ℕ) (lc : ℕ) : Type 0 where
  pub some : 0 < n
  pub paired : length elements ≡ length groups
  pub distinct : (i j : ℕ) → i < j → j < length elements → get_or elements i 0 ≡ get_or elements j 0 → ⊥
  pub within : (i : ℕ) → i < length elements → get_or elements i 0 < lc / corner_columns
  pub small : (i : ℕ) → i < length elements → n + get_or groups i 0 ≤ 65536
