-- What the workers on other edges ask and give: helper records that only proofs and contracts between workers need. Definitions only.
use Rattle.std.specs.Prelude.{ℕ, ◌+◌, ◌-◌, ◌/◌, ◌<◌, ◌≤◌, ◌≡◌, true, false, List, [], ◌∷◌, map, ◌++◌, length, get_or, set, Float, Option, None, Some}
use Rattle.model.specs.Mesh.{Edge, Mesh}
use Rattle.lists.specs.Lists.{stands}
use Rattle.columns.specs.Block.{cell}
use Rattle.model.specs.Elements.{Kind, element?}
use Rattle.model.specs.Split.{Opening, copy_for_of, moved, calm, stayed, doubled}
use Rattle.mesh.specs.At.{edges_at}
use Rattle.mesh.specs.Workers.{EdgeRoom, row_at}
use Rattle.mesh.specs.Widths.{point_columns, end_columns}
use Rattle.mesh.specs.Limits.{particle_limit}
use Rattle.split_plan.specs.Opened.{Ringed, RingRoom, CornersBelow, ring_from, OpeningIn}
use Rattle.work.specs.Rows.{GrownTo, Between}
use Rattle.work.specs.Places.{EndsIn}
use Rattle.links.specs.Links.{holds}
use Rattle.rewire.specs.Parts.{PartsRoom}
use Rattle.links.specs.Linked.{EdgesLinked}

-- ---- other edges

-- rows below m are as they were
abbrev pub SameRows : ℕ → List ℕ → List ℕ → List Float → List Float → Type 0
SameRows m ends ends' lengths lengths' = (j : ℕ) → j < m → row_at ends' lengths' j ≡ row_at ends lengths j

-- what copies of an edge ask
pub record CopyRoom (before k n count m room lv lg le ll : ℕ) : Type 0 where
  pub ring : RingRoom n k lv lg
  pub small : before + count ≤ 65536
  pub rows : m ≤ room
  pub columns : EdgeRoom room le ll

-- a copy of e for each group of the ring of x from `from` on stands behind the m edges
pub record CopiesGrown (e : Edge) (x from v before k n count m room : ℕ) (verts groups ends ends' : List ℕ) (lengths lengths' : List Float) (r : Option ℕ) : Type 0 where
  pub copies :
      (O : Opening) → Ringed k O n verts groups → O.count ≡ count
      → GrownTo r room (edges_at m ends lengths ++ map (λ g. calm (moved v (copy_for_of v before g) e)) (ring_from O from x)) (λ q. edges_at q ends' lengths')
  pub same : SameRows m ends ends' lengths lengths'
  pub between : Between m room r

-- what edge i of m asks: one that is no element names particles that rest in the block
pub record SettleRoom (K : Kind) (i v before k n count p m room : ℕ) (verts groups : List ℕ) (lp : ℕ) (ends : List ℕ) (lengths : List Float) : Type 0 where
  pub copy : CopyRoom before k n count m room (length verts) (length groups) (length ends) (length lengths)
  pub rests : p ≤ lp / point_columns
  pub v_in : v < p
  pub corners_in : CornersBelow p n k verts
  pub i_in : i < m
  pub ends_in : element? K (row_at ends lengths i) ≡ false → ((row_at ends lengths i).a < p) × ((row_at ends lengths i).b < p)

-- edge i of m stays in the lowest of its groups, and its copies stand behind the m edges
pub record EdgeSettled (K : Kind) (i v before k n count p m room : ℕ) (verts groups : List ℕ) (points : List Float) (ends ends' : List ℕ) (lengths lengths' : List Float) (r : Option ℕ) : Type 0 where
  pub settled :
      (O : Opening) (M : Mesh) → OpeningIn O M v before k n count p verts groups points
      → GrownTo r room (set (edges_at m ends lengths) i (stayed K M O (row_at ends lengths i)) ++ doubled K M O (row_at ends lengths i)) (λ q. edges_at q ends' lengths')
  pub others : (j : ℕ) → j < m → (j ≡ i → ⊥) → row_at ends' lengths' j ≡ row_at ends lengths j
  pub between : Between m room r

-- what the first e edges ask: those that are no element name particles that rest in the block
pub record EdgesRoom (K : Kind) (v before k n count p e room : ℕ) (verts groups : List ℕ) (lp : ℕ) (ends : List ℕ) (lengths : List Float) : Type 0 where
  pub copy : CopyRoom before k n count e room (length verts) (length groups) (length ends) (length lengths)
  pub rests : p ≤ lp / point_columns
  pub v_in : v < p
  pub corners_in : CornersBelow p n k verts
  pub ends_in : (j : ℕ) → j < e → element? K (row_at ends lengths j) ≡ false → ((row_at ends lengths j).a < p) × ((row_at ends lengths j).b < p)

-- r is the next edge from `from` on, of the first e, that names v, else e: those before it do not
pub record NextNamed (v from e : ℕ) (ends : List ℕ) (r : ℕ) : Type 0 where
  pub onward : from ≤ r
  pub within : r ≤ e
  pub unnamed : (j : ℕ) → from ≤ j → j < r → stands v (get_or ends j 0 ∷ get_or ends (length ends / end_columns + j) 0 ∷ []) ≡ false

-- ---- other edges, by the table of the edges

-- a table of the first m edges, that has places for `room` of them and a head for each copy, all of which are behind the first p particles
pub record TableRoom (before count p m room : ℕ) (ends table : List ℕ) : Type 0 where
  pub linked : EdgesLinked m ends table
  pub few : room ≤ 2048
  pub most : before ≤ particle_limit
  pub heads : before + count ≤ 1025
  pub behind : p ≤ before

-- where rows grew, the table is that of all of them
abbrev pub LinkedGrown : Option ℕ → List ℕ → List ℕ → Type 0
LinkedGrown None ends table = Unit {0}
LinkedGrown (Some m) ends table = EdgesLinked m ends table

-- edge i of m is to have w for v, and has not w already
pub record EndRoom (i v w m : ℕ) (ends table : List ℕ) : Type 0 where
  pub linked : EdgesLinked m ends table
  pub here : i < m
  pub holding : holds 2 (cell 0 (length ends / end_columns) ends) v i ≡ true
  pub head : w < particle_limit
  pub fresh : (w ≡ v → ⊥) → (c : ℕ) → c < 2 → cell 0 (length ends / end_columns) ends c i ≡ w → ⊥

-- the first n numbers rise and name edges at v, of the first e, whose table this is and whose ends are particles that were there before; each group's copy has a head
pub record StrapsRoom (v before n e : ℕ) (numbers groups ends table : List ℕ) : Type 0 where
  pub parts : PartsRoom before n e numbers groups
  pub linked : EdgesLinked e ends table
  pub ends_in : EndsIn before e ends
  pub holding : (i : ℕ) → i < n → holds 2 (cell 0 (length ends / end_columns) ends) v (get_or numbers i 0) ≡ true
  pub copies : (i : ℕ) → i < n → copy_for_of v before (get_or groups i 0) < particle_limit

-- two different ends below p
pub record EndsBelow (p : ℕ) (e : Edge) : Type 0 where
  pub first : e.a < p
  pub second : e.b < p
  pub differ : e.a ≡ e.b → ⊥

-- an edge is to be appended behind the first n, whose table this is
pub record PushRoom (n : ℕ) (e : Edge) (ends : List ℕ) (ll : ℕ) (table : List ℕ) : Type 0 where
  pub linked : EdgesLinked n ends table
  pub few : n + 1 ≤ 2048
  pub columns : EdgeRoom (n + 1) (length ends) ll
  pub row : EndsBelow particle_limit e
