-- What the functions of this crate ask and promise: the fan of a particle in tables. Names and letters as in links/specs. Definitions only.
use Rattle.std.specs.Prelude.{ℕ, ◌*◌, ◌/◌, ◌<◌, ◌≤◌, ◌≡◌, List, length, Float}
use Rattle.columns.specs.Block.{cell}
use Rattle.model.specs.Elements.{Element}
use Rattle.elements.specs.Table.{Tabled}
use Rattle.links.specs.Links.{LinksOf}
use Rattle.links.specs.Rooms.{LinkRoom}
use Rattle.mesh.specs.Widths.{corner_columns, volume_columns}

-- r is the number of elements, and they stand in tables that have room for them all
pub record FanPut (k : ℕ) (es : List Element) (r : ℕ) (numbers verts : List ℕ) (measures : List Float) : Type 0 where
  pub count : r ≡ length es
  pub tabled : r ≤ length numbers → r * k ≤ length verts → r ≤ length measures → Tabled k es r numbers verts measures

-- the table is that of t triangles, which have volumes, and v has a head in it
pub record FanLinked (v P R t : ℕ) (corners : List ℕ) (lv : ℕ) (table : List ℕ) : Type 0 where
  pub room : LinkRoom P 3 R (length corners / corner_columns) t (length corners) (length table)
  pub here : v < P
  pub linked : LinksOf P 3 R t (cell 0 (length corners / corner_columns) corners) table
  pub volumes : t ≤ lv / volume_columns
