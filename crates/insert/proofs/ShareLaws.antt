-- Laws of shares: the test of one strap, and the lengths of straps added one by one. Assumes nothing.
use Prim.Native.Nat.{ℕ, suc, ◌+◌, ◌*◌, ◌/◌}
use native.Mathlib.Numerals.{add-one}
use mathlib.Core.Path.{◌≡◌, refl, sym, ap, ap₂, ◌∙◌}
use mathlib.Core.Bool.{Bool, true, false, ◌&&◌}
use mathlib.Core.List.{List, [], ◌∷◌, ◌++◌, map, map-append, append-nil}
use lib.ListN.{length, get_or}
use lib.Dec.{eqb}
use lib.Ieee.{Float, nan, lt}
use borrow.Author.Tests.{eq-eqb, ne_eqb}
use Rattle.lists.specs.Lists.{pick, stands, sift, tab}
use Rattle.lists.proofs.Steps.{sift_step}
use Rattle.float.specs.Numbers.{plus, zero32, share_of}
use Rattle.columns.specs.Block.{cell}
use Rattle.columns.proofs.Cells.{col_0, col_1}
use Rattle.model.specs.Mesh.{Particle, Edge, blank}
use Rattle.model.specs.Elements.{sum, particle}
use Rattle.model.specs.Cut.{straps_at, strap_share}
use Rattle.mesh.specs.At.{edges_at}
use Rattle.mesh.specs.Workers.{row_at}
use Rattle.mesh.specs.Widths.{point_columns}
use Rattle.elements.proofs.Measures.{sum_push, sum_none}
use Rattle.insert.specs.Shares.{strap_at, StrapTold, total_at_of, share_by, ShareIs}
use Rattle.lists.proofs.Truths.{pick_self}
use Rattle.copies.proofs.ParticleLaws.{mass_read}
use Rattle.insert.proofs.Walks.{at_edge, at_edge_read}

-- ---- one edge

module _ (v i : ℕ) (ends : List ℕ) where
  -- what the program reads of edge i
  strap_is : (B : List Float) → strap_at v (row_at ends B i) ≡ eqb (get_or ends (2 * (length ends / 4) + i) 0) 1 && stands v (get_or ends i 0 ∷ get_or ends (length ends / 4 + i) 0 ∷ [])
  unfolding cell
  strap_is B =
      ap₂ (λ (a b : ℕ). eqb (get_or ends (2 * (length ends / 4) + i) 0) 1 && stands v (a ∷ b ∷ [])) (col_0 0 (length ends / 4) ends i) (col_1 0 (length ends / 4) ends i)

  -- no strap
  pub told_none : (get_or ends (2 * (length ends / 4) + i) 0 ≡ 1 → ⊥) → StrapTold v i ends false
  told_none n = record { is = λ B. ap (λ (t : Bool). t && stands v (get_or ends i 0 ∷ get_or ends (length ends / 4 + i) 0 ∷ [])) (sym (ne_eqb _ 1 n)) ∙ sym (strap_is B) }

  module _ (e : get_or ends (2 * (length ends / 4) + i) 0 ≡ 1) where
    a_strap : stands v (get_or ends i 0 ∷ get_or ends (length ends / 4 + i) 0 ∷ []) ≡ eqb (get_or ends (2 * (length ends / 4) + i) 0) 1 && stands v (get_or ends i 0 ∷ get_or ends (length ends / 4 + i) 0 ∷ [])
    a_strap = ap (λ (t : Bool). t && stands v (get_or ends i 0 ∷ get_or ends (length ends / 4 + i) 0 ∷ [])) (sym (eq-eqb _ 1 e))

    -- one whose first end is v
    pub told_first : get_or ends i 0 ≡ v → StrapTold v i ends true
    told_first q = record { is = λ B. ap (λ (t : Bool). pick t true (stands v (get_or ends (length ends / 4 + i) 0 ∷ []))) (sym (eq-eqb _ v q)) ∙ a_strap ∙ sym (strap_is B) }

    -- one whose first end is another
    pub told_second : (get_or ends i 0 ≡ v → ⊥) → StrapTold v i ends (eqb (get_or ends (length ends / 4 + i) 0) v)
    told_second q =
        record {
          is =
              λ B.
              pick_self (eqb (get_or ends (length ends / 4 + i) 0) v)
              ∙ ap (λ (t : Bool). pick t true (stands v (get_or ends (length ends / 4 + i) 0 ∷ []))) (sym (ne_eqb _ v q)) ∙ a_strap ∙ sym (strap_is B);
        }

  -- whether it has an end at v tells the rest
  pub strap_held : (B : List Float) (t : Bool) → at_edge ends v i ≡ t → strap_at v (row_at ends B i) ≡ eqb (get_or ends (2 * (length ends / 4) + i) 0) 1 && t
  strap_held B t h = strap_is B ∙ ap (λ (b : Bool). eqb (get_or ends (2 * (length ends / 4) + i) 0) 1 && b) (sym (at_edge_read ends v i) ∙ h)

-- ---- the sum

module _ (v : ℕ) (ends : List ℕ) (lengths : List Float) where
  pub total_none : total_at_of v (edges_at 0 ends lengths) ≡ zero32
  unfolding total_at_of edges_at tab sift
  total_none = sum_none

  -- one more edge
  pub total_step : (i : ℕ) (t : Bool) → t ≡ strap_at v (row_at ends lengths i)
      → total_at_of v (edges_at (i + 1) ends lengths) ≡ pick t (plus (total_at_of v (edges_at i ends lengths)) (row_at ends lengths i).initial) (total_at_of v (edges_at i ends lengths))
  unfolding total_at_of edges_at
  total_step i t e =
      ap (λ (l : List Edge). sum (map (λ (x : Edge). x.initial) l)) (sift_step (strap_at v) (row_at ends lengths) i ∙ ap (λ (b : Bool). sift (strap_at v) (tab i (row_at ends lengths)) ++ pick b (row_at ends lengths i ∷ []) []) (sym e))
      ∙ by t
    where
      by : (b : Bool) → sum (map (λ (x : Edge). x.initial) (sift (strap_at v) (tab i (row_at ends lengths)) ++ pick b (row_at ends lengths i ∷ []) []))
          ≡ pick b (plus (sum (map (λ (x : Edge). x.initial) (sift (strap_at v) (tab i (row_at ends lengths))))) (row_at ends lengths i).initial) (sum (map (λ (x : Edge). x.initial) (sift (strap_at v) (tab i (row_at ends lengths)))))
      by true = ap sum (map-append (λ (x : Edge). x.initial) (sift (strap_at v) (tab i (row_at ends lengths))) (row_at ends lengths i ∷ [])) ∙ sum_push _ (row_at ends lengths i).initial
      by false = ap (λ (l : List Edge). sum (map (λ (x : Edge). x.initial) l)) (append-nil (sift (strap_at v) (tab i (row_at ends lengths))))

  -- the length as the program reads it
  pub initial_read : (i : ℕ) → get_or lengths (length lengths / 4 + i) nan ≡ (row_at ends lengths i).initial
  initial_read i = sym (col_1 nan (length lengths / 4) lengths i)

  -- an edge that does not hold v adds nothing
  pub total_skip : (i : ℕ) (s : Float) → at_edge ends v i ≡ false → s ≡ total_at_of v (edges_at i ends lengths) → s ≡ total_at_of v (edges_at (suc i) ends lengths)
  total_skip i s h q =
      let b : eqb (get_or ends (2 * (length ends / 4) + i) 0) 1 && false ≡ false = and_false (eqb (get_or ends (2 * (length ends / 4) + i) 0) 1) in
      q ∙ sym (total_step i false (sym (strap_held v i ends lengths false h ∙ b))) ∙ ap (λ (j : ℕ). total_at_of v (edges_at j ends lengths)) (add-one i)
    where
      and_false : (t : Bool) → t && false ≡ false
      and_false true = refl
      and_false false = refl

  module _ (i : ℕ) (s : Float) (h : at_edge ends v i ≡ true) (q : s ≡ total_at_of v (edges_at i ends lengths)) where
    kind_tells : (t : Bool) → eqb (get_or ends (2 * (length ends / 4) + i) 0) 1 ≡ t → t ≡ strap_at v (row_at ends lengths i)
    kind_tells true e = sym (strap_held v i ends lengths true h ∙ ap (λ (b : Bool). b && true) e)
    kind_tells false e = sym (strap_held v i ends lengths true h ∙ ap (λ (b : Bool). b && true) e)

    -- one that holds it adds its length if it is a strap
    pub total_taken : get_or ends (2 * (length ends / 4) + i) 0 ≡ 1 → plus s (get_or lengths (length lengths / 4 + i) nan) ≡ total_at_of v (edges_at (suc i) ends lengths)
    total_taken e = ap₂ plus q (initial_read i) ∙ sym (total_step i true (kind_tells true (eq-eqb _ 1 e))) ∙ ap (λ (j : ℕ). total_at_of v (edges_at j ends lengths)) (add-one i)

    pub total_left : (get_or ends (2 * (length ends / 4) + i) 0 ≡ 1 → ⊥) → s ≡ total_at_of v (edges_at (suc i) ends lengths)
    total_left e = q ∙ sym (total_step i false (kind_tells false (ne_eqb _ 1 e))) ∙ ap (λ (j : ℕ). total_at_of v (edges_at j ends lengths)) (add-one i)

-- ---- the share

-- the branch that is taken
pub share_taken : (v : ℕ) (len total : Float) (points : List Float) (t : Bool) → lt zero32 total ≡ t
    → pick t (share_of (get_or points (4 * (length points / point_columns) + v) nan) len total) zero32 ≡ share_by v len total points
share_taken v len total points t d = ap (λ (b : Bool). pick b (share_of (get_or points (4 * (length points / point_columns) + v) nan) len total) zero32) (sym d)

pub share_is : (v : ℕ) (len : Float) (e : ℕ) (points : List Float) (ends : List ℕ) (lengths : List Float) (total r : Float) → total ≡ total_at_of v (edges_at e ends lengths)
    → r ≡ share_by v len total points → ShareIs v len e points ends lengths r
unfolding total_at_of strap_share straps_at
share_is v len e points ends lengths total r q d =
    record {
      is =
          λ M n roots S h.
          let w : total ≡ total_at_of v M.edges = q ∙ ap (total_at_of v) (sym S.edges_are) in
          let m : get_or points (4 * (length points / point_columns) + v) nan ≡ (particle M v).mass = mass_read v n points roots h ∙ ap (λ (l : List Particle). (get_or l v blank).mass) (sym S.particles_are) in
          d ∙ ap₂ (λ (x y : Float). pick (lt zero32 y) (share_of x len y) zero32) m w;
    }
