-- The removal of straddlers across pieces, step by step: tables of pieces, masks of what joins two of them, the log and the blocks without them. Its pieces are the
-- Rust's, which one shared particle holds together: the model's bodies. Only contracts between workers need this file. Definitions only.
use Rattle.std.specs.Prelude.{ℕ, ◌/◌, ◌<◌, ◌≤◌, ◌≡◌, Bool, not, ◌&&◌, List, length, get_or, eqb, Float}
use Rattle.columns.specs.Block.{cell}
use Rattle.model.specs.Mesh.{Edge}
use Rattle.model.specs.Elements.{Kind, Element, element?}
use Rattle.model.specs.Pieces.{body_labels, spans}
use Rattle.mesh.specs.At.{edge_row}
use Rattle.mesh.specs.Widths.{corner_columns, end_columns, length_columns, volume_columns, side_columns}
use Rattle.mesh.specs.Limits.{triangle_limit, edge_limit}
use Rattle.work.specs.Places.{CornersIn, EndsIn, SidesIn}
use Rattle.work.specs.Removal.{marked, marked_of}

-- ---- tables of pieces

-- x and y lie in different pieces, by the marks of the particles that elements hold and by the lowest particle of each piece
unfoldable pub spans_by : List ℕ → List ℕ → ℕ → ℕ → Bool
spans_by parent used x y = eqb (get_or used x 0) 1 && (eqb (get_or used y 0) 1 && not (eqb (get_or parent x 0) (get_or parent y 0)))

-- an edge, no element, that joins two pieces by those tables
unfoldable pub across_by : Kind → List ℕ → List ℕ → Edge → Bool
across_by K parent used e = not (element? K e) && spans_by parent used e.a e.b

-- what the tables of the pieces of t triangles or e edges ask: the tables have a place for each particle that is named
pub record PiecesRoom (t e : ℕ) (corners : List ℕ) (lv : ℕ) (ends : List ℕ) (ll parent used : ℕ) : Type 0 where
  pub few_triangles : t ≤ triangle_limit
  pub few_edges : e ≤ edge_limit
  pub corners_long : t ≤ length corners / corner_columns
  pub volumes_long : t ≤ lv / volume_columns
  pub ends_long : e ≤ length ends / end_columns
  pub lengths_long : e ≤ ll / length_columns
  pub corners_in : CornersIn parent t corners
  pub ends_in : EndsIn parent e ends
  pub used_long : parent ≤ used

-- the tables tell which particles lie in different pieces of these elements
pub record PiecesTold (es : List Element) (parent used : List ℕ) : Type 0 where
  pub spans_are : (x y : ℕ) → x < length parent → y < length parent → spans es (body_labels es) x y ≡ spans_by parent used x y

-- ---- masks

-- does edge j join two pieces: no length of it is asked
abbrev pub edge_crosses : Kind → List ℕ → List ℕ → List ℕ → List Float → ℕ → Bool
edge_crosses K parent used ends lengths j = across_by K parent used (edge_row (length ends / end_columns) (length lengths / length_columns) ends lengths j)

-- does boundary entry j
abbrev pub side_crosses : List ℕ → List ℕ → List ℕ → ℕ → Bool
side_crosses parent used outline j = spans_by parent used (cell 0 (length outline / side_columns) outline 0 j) (cell 0 (length outline / side_columns) outline 1 j)

-- what the test of edge j asks
pub record EdgeReads (j parent used : ℕ) (ends : List ℕ) : Type 0 where
  pub here : j < length ends / end_columns
  pub used_long : parent ≤ used
  pub first : cell 0 (length ends / end_columns) ends 0 j < parent
  pub second : cell 0 (length ends / end_columns) ends 1 j < parent

-- r tells whether edge j joins two pieces
pub record EdgeTold (K : Kind) (j : ℕ) (parent used ends : List ℕ) (r : Bool) : Type 0 where
  pub is : (lengths : List Float) → r ≡ edge_crosses K parent used ends lengths j

-- what a mask of n edges asks
pub record EdgeMaskRoom (n parent used : ℕ) (ends : List ℕ) (lm : ℕ) : Type 0 where
  pub few : n ≤ 2048
  pub ends_long : n ≤ length ends / end_columns
  pub mask_long : n ≤ lm
  pub used_long : parent ≤ used
  pub ends_in : EndsIn parent n ends

-- the mask marks the edges among the first n that join two pieces, and r are marked
pub record EdgesMarked (K : Kind) (n : ℕ) (parent used ends mask : List ℕ) (r : ℕ) : Type 0 where
  pub marks : (lengths : List Float) (j : ℕ) → j < n → marked mask j ≡ edge_crosses K parent used ends lengths j
  pub counted : r ≡ length (marked_of mask n)

-- what a mask of n boundary entries asks
pub record SideMaskRoom (n parent used : ℕ) (outline : List ℕ) (lm : ℕ) : Type 0 where
  pub few : n ≤ 2048
  pub outline_long : n ≤ length outline / side_columns
  pub mask_long : n ≤ lm
  pub used_long : parent ≤ used
  pub sides_in : SidesIn parent n outline

-- the mask marks the boundary entries among the first n that join two pieces
pub record SidesMarked (n : ℕ) (parent used outline mask : List ℕ) : Type 0 where
  pub marks : (j : ℕ) → j < n → marked mask j ≡ side_crosses parent used outline j
