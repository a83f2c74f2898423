-- An accepted mesh, and the tables of its elements. Only the contracts between workers need this file. Definitions only.
use Rattle.std.specs.Prelude.{ℕ, ◌*◌, ◌≤◌, ◌≡◌, true, List, length, Float}
use Rattle.model.specs.Valid.{indices_fit_of}
use Rattle.model.specs.Elements.{kind_of, elements_of, fan_of, corners_per_of, facet_others_of}
use Rattle.mesh.specs.Given.{Given, mesh_of, sizes_fit_of}
use Rattle.elements.specs.Table.{Cornered, Tabled}
use Rattle.bodies.specs.Bodies.{Corners}

-- what a worker knows of an input that was not refused
pub record Accepted (G : Given) : Type 0 where
  pub sized : sizes_fit_of G ≡ true
  pub indices : indices_fit_of (mesh_of G) ≡ true

-- the places that the table of a mesh has to have
pub record TableLent (numbers verts measures : ℕ) : Type 0 where
  pub numbers_long : 2048 ≤ numbers
  pub verts_long : 4096 ≤ verts
  pub measures_long : 2048 ≤ measures

-- n elements of the mesh stand in the table, k corners to each, which name particles
pub record MeshTabled (G : Given) (n k others : ℕ) (numbers verts : List ℕ) (measures : List Float) : Type 0 where
  pub per : k ≡ corners_per_of (kind_of (mesh_of G))
  pub others_are : others ≡ facet_others_of (kind_of (mesh_of G))
  pub tabled : Tabled k (elements_of (kind_of (mesh_of G)) (mesh_of G)) n numbers verts measures
  pub corners : Corners n k verts 1024
  pub narrow : n * k ≤ 4096

-- the places that the corners of a mesh and of a fan have to have
pub record FanLent (verts fan_verts : ℕ) : Type 0 where
  pub verts_long : 4096 ≤ verts
  pub fan_long : 4096 ≤ fan_verts

-- the corners of the mesh's n elements stand in one table, those of v's fan in the other
pub record FanFound (G : Given) (v n k others count : ℕ) (verts fan_verts : List ℕ) : Type 0 where
  pub per : k ≡ corners_per_of (kind_of (mesh_of G))
  pub others_are : others ≡ facet_others_of (kind_of (mesh_of G))
  pub corners : Corners n k verts 1024
  pub cornered : Cornered k (elements_of (kind_of (mesh_of G)) (mesh_of G)) n verts
  pub fan_cornered : Cornered k (fan_of (kind_of (mesh_of G)) (mesh_of G) v) count fan_verts
  pub fan_few : count ≤ 2048
  pub fan_room : count * k ≤ length fan_verts
