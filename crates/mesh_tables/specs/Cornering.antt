-- The corners of an accepted mesh's elements in one table. Only the contracts between workers need this file. Definitions only.
use Rattle.std.specs.Prelude.{ℕ, ◌*◌, ◌/◌, ◌≤◌, ◌≡◌, List, Float}
use Rattle.model.specs.Elements.{Kind, kind_of, elements_of, corners_per_of, triangles_from, straps_from}
use Rattle.mesh.specs.At.{triangles_at, edges_at}
use Rattle.mesh.specs.Given.{Given, mesh_of}
use Rattle.mesh.specs.Widths.{corner_columns, end_columns}
use Rattle.elements.specs.Table.{elements_in, Cornered}
use Rattle.bodies.specs.Bodies.{Corners}

-- the corners of the first t triangles, whatever their measures are
pub record TriangleCorners (t : ℕ) (corners verts : List ℕ) : Type 0 where
  pub are : (volumes : List Float) → Cornered 3 (triangles_from 0 (triangles_at t corners volumes)) t verts

-- the corners of the n straps among the first e edges
pub record StrapCorners (e : ℕ) (ends : List ℕ) (n : ℕ) (verts : List ℕ) : Type 0 where
  pub are : (lengths : List Float) → Cornered 2 (straps_from 0 (edges_at e ends lengths)) n verts

-- the corners of the n elements of a kind
pub record KindCorners (K : Kind) (t e : ℕ) (corners ends : List ℕ) (n : ℕ) (verts : List ℕ) : Type 0 where
  pub are : (volumes lengths : List Float) → Cornered (corners_per_of K) (elements_in K (triangles_at t corners volumes) (edges_at e ends lengths)) n verts

-- what is asked of the blocks and of the table
pub record CornerRoom (t e lc le lk : ℕ) : Type 0 where
  pub corners : t ≤ lc / corner_columns
  pub ends : e ≤ le / end_columns
  pub verts : (t * 3 ≤ lk) × (e * 2 ≤ lk)

-- n elements of the mesh have their corners in the table, k to each, which name particles
pub record MeshCornered (G : Given) (n k : ℕ) (verts : List ℕ) : Type 0 where
  pub per : k ≡ corners_per_of (kind_of (mesh_of G))
  pub cornered : Cornered k (elements_of (kind_of (mesh_of G)) (mesh_of G)) n verts
  pub corners : Corners n k verts 1024
  pub narrow : n * k ≤ 4096
