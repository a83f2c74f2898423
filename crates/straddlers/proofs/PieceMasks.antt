-- Laws of the tables of pieces and of their masks: what the tables tell of two particles, and which edges and boundary entries are marked by it. Assumes nothing.
use mathlib.Core.Path.{◌≡◌, refl, sym, ◌∙◌, ap, ap₂, subst}
use mathlib.Core.Bool.{Bool, true, false, not, ◌&&◌, false≢true}
use mathlib.Core.List.{List, []}
use Prim.Native.Nat.{ℕ, ◌+◌, ◌*◌, ◌/◌, ◌<◌, ◌≤◌}
use native.Mathlib.Omega.{arith}
use borrow.Author.Tests.{eq-eqb, ne_eqb}
use lib.Dec.{eqb}
use lib.Ieee.{Float}
use lib.ListN.{length, get_or}
use Rattle.lists.specs.Lists.{pick, sift, up_to, tab}
use Rattle.columns.specs.Block.{cell}
use Rattle.columns.proofs.Cells.{col_0, col_1}
use Rattle.lists.proofs.Walks.{sift_same}
use Rattle.model.specs.Mesh.{Edge}
use Rattle.model.specs.Elements.{Kind, Triangles, Straps, Nothing, element?}
use Rattle.mesh.specs.At.{edge_row}
use Rattle.elements.specs.Table.{ElementIs}
use Rattle.work.specs.Places.{SidesIn}
use Rattle.straddlers.specs.Straddling.{spans_by, across_by, edge_crosses, side_crosses, EdgeReads, EdgeTold, EdgesMarked, SidesMarked}
use Rattle.work.specs.Removal.{marked, marked_of}
use Rattle.work.proofs.Removals.{Marking, Counting}

-- ---- two particles

no_more : (s t : Bool) → false ≡ s && (t && false)
no_more true true = refl
no_more true false = refl
no_more false t = refl

all_but : (t : Bool) → t ≡ t && true
all_but true = refl
all_but false = refl

module _ (parent used : List ℕ) (x y : ℕ) where
  -- the two have one root
  pub spans_root : get_or parent x 0 ≡ get_or parent y 0 → false ≡ spans_by parent used x y
  unfolding spans_by
  spans_root e = rw (eq-eqb (get_or parent x 0) (get_or parent y 0) e) (no_more (eqb (get_or used x 0) 1) (eqb (get_or used y 0) 1))

  -- or no element holds the first
  pub spans_first : (get_or used x 0 ≡ 1 → ⊥) → false ≡ spans_by parent used x y
  unfolding spans_by
  spans_first n = rw (ne_eqb (get_or used x 0) 1 n)

  -- else the second tells
  pub spans_second : (get_or parent x 0 ≡ get_or parent y 0 → ⊥) → get_or used x 0 ≡ 1 → eqb (get_or used y 0) 1 ≡ spans_by parent used x y
  unfolding spans_by
  spans_second n e = rw (ne_eqb (get_or parent x 0) (get_or parent y 0) n, eq-eqb (get_or used x 0) 1 e) (all_but (eqb (get_or used y 0) 1))

-- ---- one edge

element_goes : (s t : Bool) → s ≡ true → false ≡ not s && t
element_goes true t e = refl
element_goes false t e = absurd (false≢true e)

other_goes : (s t : Bool) → s ≡ false → t ≡ not s && t
other_goes true t e = absurd (false≢true (sym e))
other_goes false t e = refl

module _ (K : Kind) (i : ℕ) (parent used ends : List ℕ) (s : Bool) (E : ElementIs K (get_or ends (2 * (length ends / 4) + i) 0) s) where
  row : List Float → Edge
  row lengths = edge_row (length ends / 4) (length lengths / 4) ends lengths i

  element_is : (lengths : List Float) → s ≡ element? K (row lengths)
  unfolding row cell
  element_is lengths = E.is (row lengths) refl

  -- an element stays
  pub told_element : s ≡ true → EdgeTold K i parent used ends false
  unfolding across_by row
  told_element e = record { is = λ B. element_goes (element? K (row B)) _ (sym (element_is B) ∙ e) }

  -- another edge goes if its ends lie in different pieces
  pub told_other : s ≡ false → (r : Bool) → r ≡ spans_by parent used (get_or ends i 0) (get_or ends (length ends / 4 + i) 0) → EdgeTold K i parent used ends r
  unfolding across_by row
  told_other e r q =
      record {
        is =
            λ B.
            q ∙ ap₂ (spans_by parent used) (sym (col_0 0 (length ends / 4) ends i)) (sym (col_1 0 (length ends / 4) ends i))
            ∙ other_goes (element? K (row B)) _ (sym (element_is B) ∙ e);
      }

-- what is asked of its ends
pub ends_read : (i : ℕ) (parent used : ℕ) (ends : List ℕ) → EdgeReads i parent used ends
    → (get_or ends i 0 < parent) × (get_or ends (length ends / 4 + i) 0 < parent) × (parent ≤ used)
ends_read i parent used ends R = (
  subst (λ (z : ℕ). z < parent) (col_0 0 (length ends / 4) ends i) R.first,
  subst (λ (z : ℕ). z < parent) (col_1 0 (length ends / 4) ends i) R.second,
  R.used_long,
)

-- and of the ends of a boundary entry
pub sides_read : (i n parent used : ℕ) (outline : List ℕ) → SidesIn parent n outline → i < n → parent ≤ used
    → (get_or outline i 0 < parent) × (get_or outline (length outline / 2 + i) 0 < parent) × (parent ≤ used)
sides_read i n parent used outline S h l = (
  subst (λ (z : ℕ). z < parent) (col_0 0 (length outline / 2) outline i) (S.first i h),
  subst (λ (z : ℕ). z < parent) (col_1 0 (length outline / 2) outline i) (S.second i h),
  l,
)

-- no length of an edge is asked
any_lengths : (K : Kind) (parent used ends : List ℕ) (B D : List Float) (j : ℕ) → edge_crosses K parent used ends B j ≡ edge_crosses K parent used ends D j
unfolding across_by
any_lengths Triangles parent used ends B D j = refl
any_lengths Straps parent used ends B D j = refl
any_lengths Nothing parent used ends B D j = refl

-- ---- marks

-- all edges are marked
pub edges_marked : (K : Kind) (n : ℕ) (parent used ends mask₀ mask : List ℕ) (i count : ℕ) → Marking (edge_crosses K parent used ends []) n mask₀ mask i
    → Counting (edge_crosses K parent used ends []) i count → n ≤ i → EdgesMarked K n parent used ends mask count
unfolding marked_of up_to
edges_marked K n parent used ends mask₀ mask i count G C h =
    let inside = G.inside in
    let all : i ≡ n = omega arith in
    let T = edge_crosses K parent used ends [] in
    record {
      marks = λ B j l. G.marks j (omega arith) ∙ any_lengths K parent used ends [] B j;
      counted =
          C.counted ∙ ap (λ (z : ℕ). length (sift T (tab z (λ k. k)))) all
          ∙ ap length (sift_same T (marked mask) n (λ k. k) (λ j l. sym (G.marks j (omega arith))));
    }

-- all boundary entries are marked
pub sides_marked : (n : ℕ) (parent used outline mask₀ mask : List ℕ) (i : ℕ) → Marking (side_crosses parent used outline) n mask₀ mask i → n ≤ i
    → SidesMarked n parent used outline mask
sides_marked n parent used outline mask₀ mask i G h = let inside = G.inside in record { marks = λ j l. G.marks j (omega arith) }

-- the test of one entry
pub side_told : (parent used outline : List ℕ) (i m : ℕ) (r : Bool) → r ≡ spans_by parent used (get_or outline i 0) (get_or outline (length outline / 2 + i) 0) → m ≡ pick r 1 0
    → m ≡ pick (side_crosses parent used outline i) 1 0
side_told parent used outline i m r q e =
    e ∙ ap (λ (z : Bool). pick z 1 0)
    (q ∙ ap₂ (spans_by parent used) (sym (col_0 0 (length outline / 2) outline i)) (sym (col_1 0 (length outline / 2) outline i)))
