-- Loads read off the blocks. Only contracts between workers need this file. Definitions only.
use Rattle.std.specs.Prelude.{ℕ, ◌+◌, ◌/◌, ◌<◌, ◌≤◌, ◌≡◌, List, length, get_or, take, Float}
use Rattle.lists.specs.Lists.{fold}
use Rattle.float.specs.Numbers.{max_of}
use Rattle.model.specs.Mesh.{Mesh}
use Rattle.model.specs.Elements.{Triangles}
use Rattle.model.specs.Trace.{Sound}
use Rattle.model.specs.Crack.{stress_between, triangle_load, loads_of}
use Rattle.mesh.specs.At.{triangle_row, triangles_at, edges_at}
use Rattle.mesh.specs.Workers.{EdgeRoom}
use Rattle.mesh.specs.Widths.{corner_columns, end_columns, volume_columns}
use Rattle.mesh.specs.Limits.{particle_limit, edge_limit}
use Rattle.work.specs.Places.{EndsIn}

-- the sum of the ends of edge i: the number of its bucket
abbrev pub end_sum : List ℕ → ℕ → ℕ
end_sum ends i = get_or ends i 0 + get_or ends (length ends / end_columns + i) 0

-- k is the first edge from j on whose ends have sum s, or e where there is none
pub record FirstFrom (j s e : ℕ) (ends : List ℕ) (k : ℕ) : Type 0 where
  pub from : j ≤ k
  pub inside : k ≤ e
  pub sums : k < e → end_sum ends k ≡ s
  pub none : (i : ℕ) → j ≤ i → i < k → end_sum ends i ≡ s → ⊥

-- the edges from j on are linked: the first of each bucket, and behind each edge the next of its bucket
pub record Linked (j e : ℕ) (ends heads nexts : List ℕ) : Type 0 where
  pub head : (s : ℕ) → s < 2048 → FirstFrom j s e ends (get_or heads s 0)
  pub next : (i : ℕ) → j ≤ i → i < e → FirstFrom (i + 1) (end_sum ends i) e ends (get_or nexts i 0)

-- what is asked where edges are linked: their ends are below 1,024, the buckets are empty, and a link has its place
pub record LinkRoom (e : ℕ) (ends heads : List ℕ) (ln : ℕ) : Type 0 where
  pub inside : e ≤ length ends / end_columns
  pub below : EndsIn particle_limit e ends
  pub long : 2048 ≤ length heads
  pub empty : (s : ℕ) → s < 2048 → get_or heads s 0 ≡ e
  pub nexts : e ≤ ln

-- what is asked of tables of links that are read: all edges are linked in them
pub record Links (e : ℕ) (ends heads nexts : List ℕ) : Type 0 where
  pub heads_long : 2048 ≤ length heads
  pub nexts_long : e ≤ length nexts
  pub linked : Linked 0 e ends heads nexts

-- what is asked of two corners: they are below 1,024, and they differ
pub record Apart (x y : ℕ) : Type 0 where
  pub first : x < particle_limit
  pub second : y < particle_limit
  pub differ : x ≡ y → ⊥

-- the larger of a load and the stresses between x and y, in any mesh of these edges
pub record PairLoad (load : Float) (x y e : ℕ) (ends : List ℕ) (lengths : List Float) (r : Float) : Type 0 where
  pub is : (M : Mesh) → M.edges ≡ edges_at e ends lengths → r ≡ fold max_of load (stress_between M (x, y))

-- what is asked where the loads of triangles are read: the triangles stand in their blocks, and so do the edges
pub record LoadRoom (in_corners in_volumes : Type 0) (e le ll : ℕ) : Type 0 where
  pub corners : in_corners
  pub volumes : in_volumes
  pub edges : EdgeRoom e le ll

-- what is asked of the numbers in the blocks: few edges, whose ends are below 1,024, and so are the corners of each triangle, which differ
pub record Numbered (t e : ℕ) (corners : List ℕ) (volumes : List Float) (ends : List ℕ) : Type 0 where
  pub few : e ≤ edge_limit
  pub ends_in : EndsIn particle_limit e ends
  pub corners_in : (j : ℕ) → j < t → Sound particle_limit (triangle_row (length corners / corner_columns) (length volumes / volume_columns) corners volumes j)

-- the load of triangle i, in any mesh of these edges
pub record TriangleLoad (i e : ℕ) (corners : List ℕ) (volumes : List Float) (ends : List ℕ) (lengths : List Float) (r : Float) : Type 0 where
  pub is : (M : Mesh) → M.edges ≡ edges_at e ends lengths → r ≡ triangle_load M (triangle_row (length corners / corner_columns) (length volumes / volume_columns) corners volumes i)

-- the first t loads are those of any mesh of these triangles and edges
pub record LoadsRead (t e : ℕ) (corners : List ℕ) (volumes : List Float) (ends : List ℕ) (lengths loads : List Float) : Type 0 where
  pub are : (M : Mesh) → M.triangles ≡ triangles_at t corners volumes → M.edges ≡ edges_at e ends lengths → take t loads ≡ loads_of Triangles M
