-- The bend edges over a strap, by marks in tables. Only contracts between workers need this file. Definitions only.
use Rattle.std.specs.Prelude.{ℕ, ◌+◌, ◌/◌, ◌<◌, ◌≤◌, ◌≡◌, Bool, true, not, ◌&&◌, ◌||◌, ◌⊎◌, List, [], ◌∷◌, map, length, get_or, Float}
use Rattle.lists.specs.Lists.{pick, stands, head_or}
use Rattle.model.specs.Mesh.{Edge, Mesh}
use Rattle.model.specs.Elements.{structural?, far_end_of, besides}
use Rattle.model.specs.Cut.{side_along, bends_over}
use Rattle.mesh.specs.At.{edges_at}
use Rattle.elements.specs.Workers.{marked}
use Rattle.mesh.specs.Workers.{row_at}
use Rattle.mesh.specs.Widths.{end_columns}
use Rattle.mesh.specs.Limits.{particle_limit}
use Rattle.insert.specs.Shares.{strap_at}
use Rattle.columns.specs.Block.{cell}
use Rattle.links.specs.Links.{holds}
use Rattle.links.specs.Linked.{EdgesLinked}

-- the end of edge i that isn't v
pub record FarIs (v i : ℕ) (ends : List ℕ) (r : ℕ) : Type 0 where
  pub is : (lengths : List Float) → r ≡ far_end_of v (row_at ends lengths i)
  pub below : (n : ℕ) → get_or ends i 0 < n → get_or ends (length ends / end_columns + i) 0 < n → r < n

-- the neighbour of v along an edge, besides w: one or none
abbrev pub near_by_of : ℕ → ℕ → Edge → List ℕ
near_by_of v w e = besides w (map (far_end_of v) (pick (strap_at v e) (e ∷ []) []))

-- r is the neighbour of v along edge i besides w, or v where there is none
pub record NeighbourIs (v w i : ℕ) (ends : List ℕ) (r : ℕ) : Type 0 where
  pub is : (lengths : List Float) → r ≡ head_or v (near_by_of v w (row_at ends lengths i))
  pub below : (n : ℕ) → v < n → get_or ends i 0 < n → get_or ends (length ends / end_columns + i) 0 < n → r < n

-- the ends of the first e edges are below n
pub record EndsBelow (n e : ℕ) (ends : List ℕ) : Type 0 where
  pub rows : e ≤ length ends / end_columns
  pub first : (j : ℕ) → j < e → get_or ends j 0 < n
  pub second : (j : ℕ) → j < e → get_or ends (length ends / end_columns + j) 0 < n

-- the table is that of the e edges; all particles have places in the list of a side, and nothing is marked in it
pub record SideRoom (v e : ℕ) (ends side table : List ℕ) : Type 0 where
  pub linked : EdgesLinked e ends table
  pub here : v < particle_limit
  pub long : 1024 ≤ length side
  pub blank : (x : ℕ) → x < length side → get_or side x 0 ≡ 0

-- exactly v's side of (v, w) is marked
pub record SideMarked (v w e : ℕ) (ends side' : List ℕ) : Type 0 where
  pub marks : (M : Mesh) (lengths : List Float) → M.edges ≡ edges_at e ends lengths → (x : ℕ) → x < length side' → marked side' x ≡ stands x (side_along M v w)

-- marked in the first and not in the second
abbrev pub only_by : List ℕ → List ℕ → ℕ → Bool
only_by first second w = marked first w && not (marked second w)

-- a bend edge, by the marks of the two sides
abbrev pub bend_by : List ℕ → List ℕ → Edge → Bool
bend_by first second e =
    not (structural? e) && ((only_by first second e.a && only_by second first e.b) || (only_by second first e.a && only_by first second e.b))

-- edge i has its ends in both tables
pub record BendRoom (i : ℕ) (ends : List ℕ) (lf ls : ℕ) : Type 0 where
  pub here : i < length ends / end_columns
  pub a_first : get_or ends i 0 < lf
  pub a_second : get_or ends i 0 < ls
  pub b_first : get_or ends (length ends / end_columns + i) 0 < lf
  pub b_second : get_or ends (length ends / end_columns + i) 0 < ls

-- r tells whether edge i is a bend edge, whatever stands in the other block
pub record BendTold (i : ℕ) (ends first second : List ℕ) (r : Bool) : Type 0 where
  pub is : (lengths : List Float) → r ≡ bend_by first second (row_at ends lengths i)

-- the table is that of the e edges; all particles have places in the lists of both sides, and each edge has a mark
pub record MarkRoom (x e : ℕ) (ends : List ℕ) (lf ls lm : ℕ) (table : List ℕ) : Type 0 where
  pub linked : EdgesLinked e ends table
  pub here : x < particle_limit
  pub first_long : 1024 ≤ lf
  pub second_long : 1024 ≤ ls
  pub marks_long : e ≤ lm

-- edge j is a bend edge, whatever stands in the block of the lengths
abbrev pub bend_at : List ℕ → List ℕ → List ℕ → ℕ → Bool
bend_at ends first second j = bend_by first second (row_at ends [] j)

-- the bend edges among those of the first e that are seen are marked too, and no edge but a bend edge is marked anew
pub record BendsSeen (seen : ℕ → Type 0) (e : ℕ) (ends first second marks marks' : List ℕ) : Type 0 where
  pub all : (j : ℕ) → j < e → seen j → marked marks' j ≡ marked marks j || bend_at ends first second j
  pub some : (j : ℕ) → (marked marks' j ≡ marked marks j) ⊎ ((j < e) × (marked marks' j ≡ marked marks j || bend_at ends first second j))

-- those with an end at x are seen
abbrev pub BendsAt : ℕ → ℕ → List ℕ → List ℕ → List ℕ → List ℕ → List ℕ → Type 0
BendsAt x e ends first second marks marks' = BendsSeen (λ j. holds 2 (cell 0 (length ends / end_columns) ends) x j ≡ true) e ends first second marks marks'

-- the bend edges among the first e are marked too, and nothing else changed
pub record BetweenMarked (e : ℕ) (ends first second marks marks' : List ℕ) : Type 0 where
  pub inside : (lengths : List Float) (j : ℕ) → j < e → marked marks' j ≡ marked marks j || bend_by first second (row_at ends lengths j)
  pub behind : (j : ℕ) → e ≤ j → marked marks' j ≡ marked marks j

-- a, b and all ends are among 1,024 particles, and each edge has a mark
pub record BendsRoom (a b e : ℕ) (ends : List ℕ) (lm : ℕ) : Type 0 where
  pub a_in : a < particle_limit
  pub b_in : b < particle_limit
  pub ends_in : EndsBelow particle_limit e ends
  pub marks_long : e ≤ lm

-- the bend edges over (a, b) are marked too, in every mesh whose edges stand there, and nothing else changed
pub record BendsMarked (a b e : ℕ) (ends marks marks' : List ℕ) : Type 0 where
  pub over : (M : Mesh) (lengths : List Float) → M.edges ≡ edges_at e ends lengths → (j : ℕ) → marked marks' j ≡ marked marks j || stands j (bends_over M a b)
