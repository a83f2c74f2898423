-- The tables that a call keeps beside the lent blocks, one behind the other. That of the triangles has 1,024 heads, and behind them three columns of 1,024 links; straps have none.
-- That of the edges starts at place 4,096, and that of the boundary at place 9,216: each has 1,024 heads, and behind them two columns of 2,048 links. Definitions only.
use Rattle.std.specs.Prelude.{ℕ, ◌/◌, ◌≤◌, ◌≡◌, List, length, drop}
use Rattle.columns.specs.Block.{cell}
use Rattle.model.specs.Elements.{Kind, Triangles}
use Rattle.links.specs.Links.{LinksOf}
use Rattle.links.specs.Rooms.{CornersApart}
use Rattle.mesh.specs.declared.Counts.{Counts}
use Rattle.mesh.specs.Blocks.{LentIndicesIn}
use Rattle.mesh.specs.Widths.{corner_columns}
use Rattle.mesh.specs.Limits.{particle_limit, triangle_limit, edge_limit}

-- the table is that of the first t triangles of a block of corners
abbrev pub TrianglesLinked : ℕ → List ℕ → List ℕ → Type 0
TrianglesLinked t corners links = LinksOf particle_limit corner_columns triangle_limit t (cell 0 (length corners / corner_columns) corners) links

-- where the elements are triangles, the table is that of the first t triangles of the block
pub record Linked (K : Kind) (t : ℕ) (corners links : List ℕ) : Type 0 where
  pub long : K ≡ Triangles → 4096 ≤ length links
  pub are : K ≡ Triangles → TrianglesLinked t corners links

-- where the elements are triangles, such a table can be built in lt places: there are at most 1,024 of them, their corners are among 1,024 particles, and none has one twice
pub record Linkable (K : Kind) (t : ℕ) (corners : List ℕ) (lt : ℕ) : Type 0 where
  pub few : t ≤ triangle_limit
  pub rows : t ≤ length corners / corner_columns
  pub long : K ≡ Triangles → 4096 ≤ lt
  pub apart : K ≡ Triangles → CornersApart particle_limit corner_columns t (cell 0 (length corners / corner_columns) corners)

-- the table is that of the first n rows of a block of w columns, whose first two columns name in each row two different ones of 1,024 particles
pub record PairsLinked (w n : ℕ) (block table : List ℕ) : Type 0 where
  pub long : 5120 ≤ length table
  pub few : n ≤ 2048
  pub rows : n ≤ length block / w
  pub are : LinksOf particle_limit 2 edge_limit n (cell 0 (length block / w) block) table
  pub apart : CornersApart particle_limit 2 n (cell 0 (length block / w) block)

-- such a table can be built in lt places
pub record PairsLinkable (w n : ℕ) (block : List ℕ) (lt : ℕ) : Type 0 where
  pub long : 5120 ≤ lt
  pub few : n ≤ 2048
  pub rows : n ≤ length block / w
  pub apart : CornersApart particle_limit 2 n (cell 0 (length block / w) block)

-- the table is that of the first e edges, by their ends
abbrev pub EdgesLinked : ℕ → List ℕ → List ℕ → Type 0
EdgesLinked e ends table = PairsLinked 4 e ends table

-- the table is that of the first b boundary entries
abbrev pub SidesLinked : ℕ → List ℕ → List ℕ → Type 0
SidesLinked b outline table = PairsLinked 2 b outline table

-- ---- all three

-- the front of the table of a call: that of the triangles, and behind it that of the edges; a third part stands behind both
pub record FrontLinked (K : Kind) (t e : ℕ) (corners ends links : List ℕ) : Type 0 where
  pub long : 14336 ≤ length links
  pub triangles : Linked K t corners links
  pub edges : EdgesLinked e ends (drop 4096 links)

-- the table of a call: that of the triangles, behind it that of the edges, and behind both that of the boundary
pub record MeshLinked (K : Kind) (t e b : ℕ) (corners ends outline links : List ℕ) : Type 0 where
  pub long : 14336 ≤ length links
  pub triangles : Linked K t corners links
  pub edges : EdgesLinked e ends (drop 4096 links)
  pub sides : SidesLinked b outline (drop 9216 links)

-- such a table can be built in lt places
pub record MeshLinkable (K : Kind) (t e b : ℕ) (corners ends outline : List ℕ) (lt : ℕ) : Type 0 where
  pub long : 14336 ≤ lt
  pub triangles : Linkable K t corners 4096
  pub edges : PairsLinkable 4 e ends 5120
  pub sides : PairsLinkable 2 b outline 5120

-- `MeshLinked` of blocks and a table, as a contract names them
abbrev pub LinkedIn : Kind → Counts → LentIndicesIn → LentIndicesIn → LentIndicesIn → LentIndicesIn → Type 0
LinkedIn K k corners ends outline links = MeshLinked K k.triangles k.edges k.boundary corners.now ends.now outline.now links.now
