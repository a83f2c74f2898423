-- One way to open an edge, over the blocks. Only contracts between workers need this file. Definitions only.
use Rattle.std.specs.Prelude.{ℕ, ◌*◌, ◌/◌, ◌<◌, ◌≤◌, ◌≡◌, true, List, map, get_or, take, Float}
use Rattle.model.specs.Mesh.{Mesh}
use Rattle.model.specs.Valid.{indices_fit_of}
use Rattle.model.specs.Elements.{Kind, Triangles, corners_per_of, fan_of}
use Rattle.model.specs.Crack.{far_side, mean_load}
use Rattle.mesh.specs.declared.Counts.{Counts}
use Rattle.mesh.specs.Widths.{point_columns, corner_columns, end_columns, length_columns, volume_columns}
use Rattle.mesh.specs.Limits.{particle_limit, triangle_limit, edge_limit}
use Rattle.elements.specs.Table.{Tabled}

-- the mesh stands in its blocks with indices that fit, and v and w are there
pub record WayReady (v w : ℕ) (k : Counts) (lp lc lv le ll : ℕ) (M : Mesh) : Type 0 where
  pub v_in : v < k.particles
  pub w_in : w < k.particles
  pub few_particles : k.particles ≤ particle_limit
  pub few_triangles : k.triangles ≤ triangle_limit
  pub few_edges : k.edges ≤ edge_limit
  pub points : k.particles ≤ lp / point_columns
  pub corners : k.triangles ≤ lc / corner_columns
  pub volumes : k.triangles ≤ lv / volume_columns
  pub ends : k.edges ≤ le / end_columns
  pub lengths : k.edges ≤ ll / length_columns
  pub indices : indices_fit_of M ≡ true

-- the tables have room for a fan and its sides
pub record WayTables (ln lk lm ls : ℕ) : Type 0 where
  pub numbers : 2048 ≤ ln
  pub verts : 4096 ≤ lk
  pub measures : 2048 ≤ lm
  pub sides : 2048 ≤ ls

-- the fan of v stands in the tables, with its sides across the edge to w
pub record WayRead (K : Kind) (v w : ℕ) (M : Mesh) (n : ℕ) (numbers verts : List ℕ) (measures : List Float) (sides : List ℕ) : Type 0 where
  pub tabled : Tabled (corners_per_of K) (fan_of K M v) n numbers verts measures
  pub few : n ≤ 2048
  pub narrow : n * corners_per_of K ≤ 4096
  pub sides_are : take n sides ≡ map (far_side M v w) (fan_of K M v)
  pub two : (i : ℕ) → i < n → get_or sides i 0 < 2

-- each triangle has a load
pub record LoadsLong (K : Kind) (k : Counts) (lo : ℕ) : Type 0 where
  pub long : K ≡ Triangles → k.triangles ≤ lo

-- r is the mean load of the way at v, whatever loads stand in the table
pub record WayLoad (K : Kind) (v w : ℕ) (k : Counts) (loads : List Float) (M : Mesh) (r : Float) : Type 0 where
  pub is : (ls : List Float) → (K ≡ Triangles → take k.triangles loads ≡ ls) → r ≡ mean_load K ls M v w

-- the fan has n elements, with a group for each
pub record OpensRoom (n fan lg : ℕ) : Type 0 where
  pub every : n ≡ fan
  pub groups : n ≤ lg
