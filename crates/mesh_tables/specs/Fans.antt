-- The fan of a particle as it is read from the columns of a mesh. Only contracts between workers need this file. Definitions only.
use Rattle.std.specs.Prelude.{ℕ, ◌+◌, ◌*◌, ◌≤◌, ◌≡◌, List, map, ◌++◌, length, take, Float}
use Rattle.model.specs.Elements.{Kind, Element, kind_of, fan_of, triangles_from, straps_from, corners_per_of, facet_others_of}
use Rattle.mesh.specs.At.{triangles_at, edges_at}
use Rattle.mesh.specs.Given.{Given, mesh_of}
use Rattle.elements.specs.Table.{Cornered, holding, elements_in}

-- a table has a row as number r, k places wide, if it has so many rows; it keeps its length, and the rows before
pub record RowPut (k r : ℕ) (row table table' : List ℕ) : Type 0 where
  pub long : length table' ≡ length table
  pub rows : r * k + k ≤ length table → take (r * k + k) table' ≡ take (r * k) table ++ row

-- r is the number of elements, and their corners stand in a table that has room for them all
pub record CornersRead (k : ℕ) (es : List Element) (r : ℕ) (verts : List ℕ) : Type 0 where
  pub count : r ≡ length es
  pub cornered : r * k ≤ length verts → Cornered k es r verts

-- r is the number of elements, and their numbers stand at the front of a table
pub record NumbersRead (es : List Element) (r : ℕ) (numbers : List ℕ) : Type 0 where
  pub count : r ≡ length es
  pub numbers_are : take r numbers ≡ map (λ (e : Element). e.number) es

-- the triangles that hold v, and the straps that do, by the corners and the ends alone
abbrev pub triangles_with : ℕ → ℕ → List ℕ → List Float → List Element
triangles_with v t corners volumes = holding v (triangles_from 0 (triangles_at t corners volumes))

abbrev pub straps_with : ℕ → ℕ → List ℕ → List Float → List Element
straps_with v e ends lengths = holding v (straps_from 0 (edges_at e ends lengths))

-- the elements of kind K that hold v
abbrev pub held_in : Kind → ℕ → ℕ → ℕ → List ℕ → List Float → List ℕ → List Float → List Element
held_in K v t e corners volumes ends lengths = holding v (elements_in K (triangles_at t corners volumes) (edges_at e ends lengths))

-- the corners of the fan of v were read, whatever stands in the other blocks
abbrev pub FanCorners : Kind → ℕ → ℕ → ℕ → List ℕ → List ℕ → ℕ → List ℕ → Type 0
FanCorners K v t e corners ends r verts = (volumes lengths : List Float) → CornersRead (corners_per_of K) (held_in K v t e corners volumes ends lengths) r verts

-- the fan of v in a mesh has so many elements, k corners to each, which stand in a table that has room for them
pub record FanOf (G : Given) (v k others count : ℕ) (verts : List ℕ) : Type 0 where
  pub per : k ≡ corners_per_of (kind_of (mesh_of G))
  pub others_are : others ≡ facet_others_of (kind_of (mesh_of G))
  pub count_is : count ≡ length (fan_of (kind_of (mesh_of G)) (mesh_of G) v)
  pub cornered : count * k ≤ length verts → Cornered k (fan_of (kind_of (mesh_of G)) (mesh_of G) v) count verts
