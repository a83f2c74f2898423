-- The tables of triangles, edges and boundary entries through a split: what the workers ask of them, and what they leave. Definitions only.
use Rattle.std.specs.Prelude.{ℕ, ◌+◌, ◌/◌, ◌<◌, ◌≤◌, ◌≡◌, List, length, get_or, take, drop, Ok, Err}
use Rattle.columns.specs.Block.{cell}
use Rattle.model.specs.Elements.{Kind, Triangles}
use Rattle.model.specs.Split.{copy_for_of}
use Rattle.links.specs.Links.{cells_of}
use Rattle.links.specs.Rooms.{CornersApart}
use Rattle.links.specs.Linked.{FrontLinked, MeshLinked}
use Rattle.edge_drops.specs.Parted.{listed}
use Rattle.boundary.specs.Faces.{FanApart, FacetTable}
use Rattle.work.specs.Ran.{Ran}
use Rattle.split.specs.Grew.{Grew}
use Rattle.mesh.specs.Widths.{corner_columns}
use Rattle.mesh.specs.Limits.{particle_limit, triangle_limit}

-- behind a worker: where it is done, the tables are those of the blocks again
abbrev pub LinkedAfter : Kind → List ℕ → List ℕ → List ℕ → List ℕ → Ran → Type 0
LinkedAfter K corners ends outline links (Err c) = Unit {0}
LinkedAfter K corners ends outline links (Ok q) = MeshLinked K q.triangles q.edges q.boundary corners ends outline links

-- the same where edges are listed that are to go: the tables are those of the blocks with the listed edges
abbrev pub LinkedListed : Kind → List ℕ → List ℕ → List ℕ → List ℕ → List ℕ → Ran → Type 0
LinkedListed K corners ends outline links list (Err c) = Unit {0}
LinkedListed K corners ends outline links list (Ok q) = MeshLinked K q.triangles (q.edges + listed list) q.boundary corners ends outline links

-- ---- only contracts between workers need what follows

-- the front of the tables is that of the blocks, and the boundary's part is as it was in links₀
abbrev pub FrontKept : Kind → ℕ → ℕ → List ℕ → List ℕ → List ℕ → List ℕ → Type 0
FrontKept K t e corners ends links₀ links = FrontLinked K t e corners ends links × (drop 9216 links ≡ drop 9216 links₀)

-- behind parts 1 to 3: where they had room, the front of the tables is that of the blocks again
abbrev pub LinkedGrown : Kind → ℕ → List ℕ → List ℕ → List ℕ → List ℕ → Grew → Type 0
LinkedGrown K t corners ends links₀ links (Err c) = Unit {0}
LinkedGrown K t corners ends links₀ links (Ok e) = FrontKept K t e corners ends links₀ links

-- where the elements are triangles, the corners of each that the first n numbers name are different ones of 1,024 particles
abbrev pub FanSound : Kind → ℕ → List ℕ → List ℕ → Type 0
FanSound K n numbers corners = K ≡ Triangles → FanApart n numbers corners

-- what the boundary asks of its table, of b entries within the room, and of the faces that may join it
pub record FacetsLinked (K : Kind) (n b room : ℕ) (numbers corners outline table : List ℕ) : Type 0 where
  pub table_is : FacetTable b room outline table
  pub sound : FanSound K n numbers corners

-- where the elements are triangles: the corners of t triangles are among so many particles, none has one twice, and the first n numbers are of those that hold v
pub record FanNamed (K : Kind) (v before t n : ℕ) (numbers corners : List ℕ) : Type 0 where
  pub apart : K ≡ Triangles → CornersApart before 3 t (cell 0 (length corners / corner_columns) corners)
  pub fan : K ≡ Triangles → take n numbers ≡ cells_of 3 t (cell 0 (length corners / corner_columns) corners) v

-- the table has room for t triangles in a block of lc places, and a head for v and each copy of a group
pub record HeadsRoom (v before t n lc : ℕ) (groups : List ℕ) : Type 0 where
  pub few : t ≤ triangle_limit
  pub rows : t ≤ lc / corner_columns
  pub here : v < before
  pub most : before ≤ particle_limit
  pub copies : (i : ℕ) → i < n → copy_for_of v before (get_or groups i 0) < particle_limit
