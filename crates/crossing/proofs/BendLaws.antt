-- Laws of bend edges: a side marked along straps, the test of one edge, and the marks of all. Assumes nothing.
use Prim.Native.Nat.{ℕ, zero, suc, ◌+◌, ◌*◌, ◌/◌, ◌<◌, ◌≤◌}
use native.Mathlib.Omega.{arith}
use native.Mathlib.Nat.{not-suc-le-zero}
use native.Mathlib.Numerals.{add-one}
use native.Mathlib.Decide.{ℕ_discrete}
use mathlib.Core.Path.{◌≡◌, refl, sym, ap, ap₂, ◌∙◌, subst}
use mathlib.Core.Logic.{◌⊎◌, inl, inr, ⊎_elim}
use mathlib.Core.Bool.{Bool, true, false, not, ◌&&◌, ◌||◌, false≢true}
use mathlib.Core.List.{List, [], ◌∷◌, ◌++◌, map, map-append, append-nil}
use lib.ListN.{length, get_or, set, length-set, replicate, length-replicate}
use lib.Seq.{get_or-set_same, get_or-set_other}
use lib.Dec.{eqb}
use lib.Ieee.{Float}
use borrow.Author.Tests.{eq-eqb, ne_eqb}
use Rattle.lists.specs.Lists.{pick, stands, head_or, sift, each, map_at_of, tab}
use Rattle.lists.proofs.Sifts.{sift_append, stands_append, pick_by}
use Rattle.lists.proofs.Rows.{rows_map}
use Rattle.lists.proofs.Steps.{sift_step, each_step}
use Rattle.columns.specs.Block.{cell}
use Rattle.columns.proofs.Cells.{col_0, col_1}
use Rattle.model.specs.Mesh.{Edge, Mesh}
use Rattle.model.specs.Elements.{structural?, far_end_of, besides}
use Rattle.model.specs.Cut.{straps_at, side_along, only, bends, numbers_of, bends_over}
use Rattle.mesh.specs.At.{edges_at}
use Rattle.elements.specs.Workers.{marked}
use Rattle.mesh.specs.Workers.{row_at}
use Rattle.insert.specs.Shares.{strap_at, StrapTold}
use Rattle.crossing.specs.Bends.{FarIs, near_by_of, NeighbourIs, EndsBelow, SideRoom, SideMarked, only_by, bend_by, BendTold, bend_at, BendsSeen, BendsAt, BetweenMarked, BendsMarked}
use Rattle.insert.proofs.Walks.{at_edge}
use Rattle.insert.proofs.ShareLaws.{strap_held}
use Rattle.insert.proofs.PlanLaws.{was_false, was_true}
use Rattle.links.specs.Linked.{EdgesLinked}
use Rattle.links.proofs.Lowest.{holds_made, false_true}
use Rattle.lists.proofs.Truths.{or_end}
use Rattle.lists.proofs.Stores.{stored}
use Rattle.straddling.specs.Listing.{WalkTold}
use Rattle.straddling.proofs.ListLaws.{none_walked}

-- ---- the ends of the edges of a table

-- an edge is at each of its ends
at_first : (ends : List ℕ) (j : ℕ) → at_edge ends (get_or ends j 0) j ≡ true
at_first ends j = holds_made 2 (cell 0 (length ends / 4) ends) 0 j (get_or ends j 0) (omega arith) (col_0 0 (length ends / 4) ends j)

at_second : (ends : List ℕ) (j : ℕ) → at_edge ends (get_or ends (length ends / 4 + j) 0) j ≡ true
at_second ends j = holds_made 2 (cell 0 (length ends / 4) ends) 1 j (get_or ends (length ends / 4 + j) 0) (omega arith) (col_1 0 (length ends / 4) ends j)

-- they are below 1,024
pub linked_below : {e : ℕ} {ends table : List ℕ} → EdgesLinked e ends table → EndsBelow 1024 e ends
linked_below {e} {ends} {table} L =
    record {
      rows = L.rows;
      first = λ j h. subst (λ (x : ℕ). x < 1024) (col_0 0 (length ends / 4) ends j) (L.apart.below 0 j (omega arith) h);
      second = λ j h. subst (λ (x : ℕ). x < 1024) (col_1 0 (length ends / 4) ends j) (L.apart.below 1 j (omega arith) h);
    }

-- ---- the far end

module _ (v i : ℕ) (ends : List ℕ) where
  far_read : (B : List Float) → far_end_of v (row_at ends B i) ≡ pick (eqb (get_or ends i 0) v) (get_or ends (length ends / 4 + i) 0) (get_or ends i 0)
  far_read B = ap₂ (λ (a b : ℕ). pick (eqb a v) b a) (col_0 0 (length ends / 4) ends i) (col_1 0 (length ends / 4) ends i)

  pub far_second : get_or ends i 0 ≡ v → FarIs v i ends (get_or ends (length ends / 4 + i) 0)
  far_second e = record { is = λ B. ap (λ (t : Bool). pick t (get_or ends (length ends / 4 + i) 0) (get_or ends i 0)) (sym (eq-eqb _ v e)) ∙ sym (far_read B); below = λ n a b. b }

  pub far_first : (get_or ends i 0 ≡ v → ⊥) → FarIs v i ends (get_or ends i 0)
  far_first e = record { is = λ B. ap (λ (t : Bool). pick t (get_or ends (length ends / 4 + i) 0) (get_or ends i 0)) (sym (ne_eqb _ v e)) ∙ sym (far_read B); below = λ n a b. a }

-- ---- the neighbour

-- what is left of one number besides w
beside_one : (w x : ℕ) → besides w (x ∷ []) ≡ pick (not (eqb x w)) (x ∷ []) []
unfolding besides sift
beside_one w x = refl

beside_none : (w : ℕ) → besides w [] ≡ []
unfolding besides sift
beside_none w = refl

module _ (v w i : ℕ) (ends : List ℕ) (t : Bool) (T : StrapTold v i ends t) where
  near_as : (B : List Float) (b : Bool) → t ≡ b → near_by_of v w (row_at ends B i) ≡ besides w (map (far_end_of v) (pick b (row_at ends B i ∷ []) []))
  near_as B b e = ap (λ (s : Bool). besides w (map (far_end_of v) (pick s (row_at ends B i ∷ []) []))) (sym (T.is B) ∙ e)

  -- no strap at v
  pub neighbour_none : t ≡ false → NeighbourIs v w i ends v
  neighbour_none e = record { is = λ B. ap (head_or v) (sym (near_as B false e ∙ beside_none w)); below = λ n a b d. a }

  module _ (e : t ≡ true) (x : ℕ) (F : FarIs v i ends x) where
    near_is : (B : List Float) → near_by_of v w (row_at ends B i) ≡ pick (not (eqb x w)) (x ∷ []) []
    near_is B = near_as B true e ∙ ap (λ (y : ℕ). besides w (y ∷ [])) (sym (F.is B)) ∙ beside_one w x

    -- the far end is w
    pub neighbour_w : x ≡ w → NeighbourIs v w i ends v
    neighbour_w q = record { is = λ B. ap (head_or v) (sym (near_is B ∙ ap (λ (s : Bool). pick (not s) (x ∷ []) []) (eq-eqb x w q))); below = λ n a b d. a }

    -- the far end is another
    pub neighbour_far : (x ≡ w → ⊥) → NeighbourIs v w i ends x
    neighbour_far q = record { is = λ B. ap (head_or v) (sym (near_is B ∙ ap (λ (s : Bool). pick (not s) (x ∷ []) []) (ne_eqb x w q))); below = λ n a b d. F.below n b d }

-- at most one
near_few : (v w : ℕ) (e : Edge) → length (near_by_of v w e) ≤ 1
unfolding besides sift
near_few v w e = by (strap_at v e)
  where
    by : (t : Bool) → length (besides w (map (far_end_of v) (pick t (e ∷ []) []))) ≤ 1
    by true = pick_by (λ (l : List ℕ). length l ≤ 1) (not (eqb (far_end_of v e) w)) (omega arith) (omega arith)
    by false = omega arith

-- ---- one mark more

-- a mark at r, and at any other place
mark_here : (side : List ℕ) (r x : ℕ) → r < length side → x ≡ r → marked (set side r 1) x ≡ true
mark_here side r x h e = eq-eqb _ 1 (ap (λ (y : ℕ). get_or (set side r 1) y 0) e ∙ get_or-set_same side r 1 0 h)

mark_there : (side : List ℕ) (r x : ℕ) → (x ≡ r → ⊥) → marked (set side r 1) x ≡ marked side x
mark_there side r x n = ap (λ (y : ℕ). eqb y 1) (get_or-set_other side r x 1 0 n)

mark_more : (side : List ℕ) (v x r : ℕ) (L N : List ℕ) → length N ≤ 1 → r ≡ head_or v N → marked side x ≡ stands x (v ∷ L) → r < length side → marked (set side r 1) x ≡ stands x (v ∷ (L ++ N))
mark_more side v x r L [] few e m h =
    elim (ℕ_discrete x r) [
      | yes q ↦ mark_here side r x h q ∙ sym (ap (λ (t : Bool). pick t true (stands x (L ++ []))) (eq-eqb v x (sym (q ∙ e))))
      | no n ↦ mark_there side r x n ∙ m ∙ ap (λ (l : List ℕ). stands x (v ∷ l)) (sym (append-nil L))
    ]
mark_more side v x r L (y ∷ []) few e m h =
    let grown : stands x (v ∷ (L ++ (y ∷ []))) ≡ pick (eqb v x) true (stands x L || stands x (y ∷ [])) = ap (λ (t : Bool). pick (eqb v x) true t) (stands_append x L (y ∷ [])) in
    elim (ℕ_discrete x r) [
      | yes q ↦
          let one : stands x (y ∷ []) ≡ true = ap (λ (t : Bool). pick t true false) (eq-eqb y x (sym (q ∙ e))) in
          mark_here side r x h q ∙ sym (grown ∙ ap (λ (t : Bool). pick (eqb v x) true (stands x L || t)) one ∙ late (eqb v x) (stands x L))
      | no n ↦
          let none : stands x (y ∷ []) ≡ false = ap (λ (t : Bool). pick t true false) (ne_eqb y x (λ d. n (sym (e ∙ d)))) in
          mark_there side r x n ∙ m ∙ sym (grown ∙ ap (λ (t : Bool). pick (eqb v x) true (stands x L || t)) none ∙ ap (λ (t : Bool). pick (eqb v x) true t) (or_end (stands x L)))
    ]
  where
    late : (s t : Bool) → pick s true (t || true) ≡ true
    late true t = refl
    late false true = refl
    late false false = refl
mark_more side v x r L (y ∷ z ∷ N) few e m h = absurd (omega arith)

-- ---- a side

-- v's neighbours along the first i edges, besides w
abbrev along_first : ℕ → ℕ → ℕ → List ℕ → List Float → List ℕ
along_first v w i ends B = besides w (map (far_end_of v) (sift (strap_at v) (edges_at i ends B)))

along_step : (v w i : ℕ) (ends : List ℕ) (B : List Float) → along_first v w (suc i) ends B ≡ along_first v w i ends B ++ near_by_of v w (row_at ends B i)
unfolding edges_at besides
along_step v w i ends B =
    ap (λ (j : ℕ). along_first v w j ends B) (sym (add-one i)) ∙ ap (λ (l : List Edge). besides w (map (far_end_of v) l)) (sift_step (strap_at v) (row_at ends B) i)
    ∙ ap (besides w) (map-append (far_end_of v) (sift (strap_at v) (tab i (row_at ends B))) (pick (strap_at v (row_at ends B i)) (row_at ends B i ∷ []) []))
    ∙ sift_append (λ x. not (eqb x w)) (map (far_end_of v) (sift (strap_at v) (tab i (row_at ends B)))) (map (far_end_of v) (pick (strap_at v (row_at ends B i)) (row_at ends B i ∷ []) []))

-- an edge without v adds none
along_skip : (v w i : ℕ) (ends : List ℕ) (B : List Float) → at_edge ends v i ≡ false → along_first v w (suc i) ends B ≡ along_first v w i ends B
along_skip v w i ends B n =
    along_step v w i ends B
    ∙ ap (λ (t : Bool). along_first v w i ends B ++ besides w (map (far_end_of v) (pick t (row_at ends B i ∷ []) []))) (strap_held v i ends B false n ∙ and_none (eqb (get_or ends (2 * (length ends / 4) + i) 0) 1))
    ∙ ap (λ (l : List ℕ). along_first v w i ends B ++ l) (beside_none w) ∙ append-nil (along_first v w i ends B)
  where
    and_none : (t : Bool) → t && false ≡ false
    and_none true = refl
    and_none false = refl

-- at the head of the loop: v and its neighbours along the first i edges are marked
pub record SideMarking (v w e : ℕ) (ends side₀ side : List ℕ) (i : ℕ) : Type 0 where
  pub long : length side ≡ length side₀
  pub inside : i ≤ e
  pub marks : (B : List Float) (x : ℕ) → x < length side → marked side x ≡ stands x (v ∷ along_first v w i ends B)

pub marking_start : (v w e : ℕ) (ends side table : List ℕ) → SideRoom v e ends side table → SideMarking v w e ends (set side v 1) (set side v 1) 0
unfolding edges_at tab sift besides
marking_start v w e ends side table R =
    record {
      long = refl;
      inside = omega arith;
      marks =
          λ B x l.
          let k : x < length side = omega (arith, length-set side v 1) in
          elim (ℕ_discrete x v) [
            | yes q ↦ mark_here side v x (omega (arith, R.here, R.long)) q ∙ sym (ap (λ (t : Bool). pick t true false) (eq-eqb v x (sym q)))
            | no n ↦
                mark_there side v x n ∙ ne_eqb (get_or side x 0) 1 (λ d. omega (arith, R.blank x k))
                ∙ sym (ap (λ (t : Bool). pick t true false) (ne_eqb v x (λ d. n (sym d))))
          ];
    }

module _ (v w e : ℕ) (ends side₀ side : List ℕ) (i : ℕ) (G : SideMarking v w e ends side₀ side i) where
  pub marking_step : (r : ℕ) → i < e → NeighbourIs v w i ends r → r < length side → SideMarking v w e ends side₀ (set side r 1) (suc i)
  marking_step r h N l =
      record {
        long = length-set side r 1 ∙ G.long;
        inside = omega arith;
        marks =
            λ B x k.
            mark_more side v x r (along_first v w i ends B) (near_by_of v w (row_at ends B i)) (near_few v w (row_at ends B i)) (N.is B) (G.marks B x (omega (arith, length-set side r 1))) l
            ∙ ap (λ (s : List ℕ). stands x (v ∷ s)) (sym (along_step v w i ends B));
      }

  -- an edge without v has no neighbour of it
  pub marking_skip : i < e → at_edge ends v i ≡ false → SideMarking v w e ends side₀ side (suc i)
  marking_skip h n =
      record {
        long = G.long;
        inside = omega arith;
        marks = λ B x k. G.marks B x k ∙ ap (λ (s : List ℕ). stands x (v ∷ s)) (sym (along_skip v w i ends B n));
      }

  pub marking_done : e ≤ i → SideMarked v w e ends side
  unfolding side_along straps_at
  marking_done h =
      let low = G.inside in
      let all : i ≡ e = omega arith in
      record {
        marks =
            λ M B q x l.
            G.marks B x l ∙ ap (λ (j : ℕ). stands x (v ∷ along_first v w j ends B)) all ∙ ap (λ (s : List Edge). stands x (v ∷ besides w (map (far_end_of v) (sift (strap_at v) s)))) (sym q);
      }

-- ---- the test of one edge

pub only_no : (a b : Bool) → a ≡ false → false ≡ a && not b
only_no a b e = rw e

pub only_yes : (a b : Bool) → a ≡ true → not b ≡ a && not b
only_yes a b e = rw e

module _ (i : ℕ) (ends first second : List ℕ) where
  abbrev end_a : ℕ
  end_a = get_or ends i 0

  abbrev end_b : ℕ
  end_b = get_or ends (length ends / 4 + i) 0

  abbrev by_ends : Bool
  by_ends = (only_by first second end_a && only_by second first end_b) || (only_by second first end_a && only_by first second end_b)

  bend_read : (B : List Float) → bend_by first second (row_at ends B i) ≡ not (eqb (get_or ends (2 * (length ends / 4) + i) 0) 1) && by_ends
  unfolding cell
  bend_read B =
      ap₂ (λ (a b : ℕ). not (eqb (get_or ends (2 * (length ends / 4) + i) 0) 1) && ((only_by first second a && only_by second first b) || (only_by second first a && only_by first second b)))
      (col_0 0 (length ends / 4) ends i) (col_1 0 (length ends / 4) ends i)

  pub bend_strap : get_or ends (2 * (length ends / 4) + i) 0 ≡ 1 → BendTold i ends first second false
  bend_strap e = record { is = λ B. ap (λ (t : Bool). not t && by_ends) (sym (eq-eqb _ 1 e)) ∙ sym (bend_read B) }

  bend_free : (t : Bool) → (get_or ends (2 * (length ends / 4) + i) 0 ≡ 1 → ⊥) → t ≡ by_ends → BendTold i ends first second t
  bend_free t n q = record { is = λ B. q ∙ ap (λ (s : Bool). not s && by_ends) (sym (ne_eqb _ 1 n)) ∙ sym (bend_read B) }

  apart : (p q : Bool) → p && not q ≡ true → q && not p ≡ false
  apart true true e = absurd (false≢true e)
  apart true false e = refl
  apart false q e = absurd (false≢true e)

  pub bend_along : (get_or ends (2 * (length ends / 4) + i) 0 ≡ 1 → ⊥) → (s t : Bool) → s ≡ only_by first second end_a → s ≡ true → t ≡ only_by second first end_b → BendTold i ends first second t
  bend_along n s t es e et =
      bend_free t n
      (et
      ∙ sym (ap₂ (λ (x y : Bool). (x && only_by second first end_b) || (y && only_by first second end_b)) (sym es ∙ e) (apart (marked first end_a) (marked second end_a) (sym es ∙ e)) ∙ or_end (only_by second first end_b)))

  pub bend_against : (get_or ends (2 * (length ends / 4) + i) 0 ≡ 1 → ⊥) → (s u t : Bool) → s ≡ only_by first second end_a → s ≡ false → u ≡ only_by second first end_a → u ≡ true → t ≡ only_by first second end_b
      → BendTold i ends first second t
  bend_against n s u t es e eu d et =
      bend_free t n (et ∙ sym (ap₂ (λ (x y : Bool). (x && only_by second first end_b) || (y && only_by first second end_b)) (sym es ∙ e) (sym eu ∙ d)))

  pub bend_not : (get_or ends (2 * (length ends / 4) + i) 0 ≡ 1 → ⊥) → (s u : Bool) → s ≡ only_by first second end_a → s ≡ false → u ≡ only_by second first end_a → u ≡ false → BendTold i ends first second false
  bend_not n s u es e eu d = bend_free false n (sym (ap₂ (λ (x y : Bool). (x && only_by second first end_b) || (y && only_by first second end_b)) (sym es ∙ e) (sym eu ∙ d)))

  -- an edge without an end in the first side alone is none
  pub bend_none : only_by first second end_a ≡ false → only_by first second end_b ≡ false → bend_at ends first second i ≡ false
  bend_none x y =
      bend_read []
      ∙ ap₂ (λ (s t : Bool). not (eqb (get_or ends (2 * (length ends / 4) + i) 0) 1) && ((s && only_by second first end_b) || (only_by second first end_a && t))) x y
      ∙ flat (not (eqb (get_or ends (2 * (length ends / 4) + i) 0) 1)) (only_by second first end_a)
    where
      flat : (k u : Bool) → k && (u && false) ≡ false
      flat true true = refl
      flat true false = refl
      flat false u = refl

-- ---- the marks

or_yes : (t : Bool) → true ≡ t || true
or_yes true = refl
or_yes false = refl

-- a test that is made twice
or_twice : (s t : Bool) → (s || t) || t ≡ s || t
or_twice true t = refl
or_twice false true = refl
or_twice false false = refl

module _ (e : ℕ) (ends first second : List ℕ) where
  abbrev bend : ℕ → Bool
  bend = bend_at ends first second

  -- nothing is seen at first
  pub seen_none : (P : ℕ → Type 0) (marks : List ℕ) → ((j : ℕ) → P j → ⊥) → BendsSeen P e ends first second marks marks
  seen_none P marks n = record { all = λ j l p. absurd (n j p); some = λ j. inl refl }

  -- what is seen by more is seen by less
  pub seen_less : (P Q : ℕ → Type 0) (marks marks' : List ℕ) → ((j : ℕ) → j < e → Q j → P j) → BendsSeen P e ends first second marks marks' → BendsSeen Q e ends first second marks marks'
  seen_less P Q marks marks' h S = record { all = λ j l q. S.all j l (h j l q); some = S.some }

  -- one after the other
  pub seen_then : (P Q : ℕ → Type 0) (marks marks₁ marks₂ : List ℕ) → BendsSeen P e ends first second marks marks₁ → BendsSeen Q e ends first second marks₁ marks₂
      → BendsSeen (λ j. P j ⊎ Q j) e ends first second marks marks₂
  seen_then P Q marks marks₁ marks₂ S T = record { all = λ j l. ⊎_elim (left j l) (right j l); some = λ j. ⊎_elim (λ x. ⊎_elim (λ y. inl (x ∙ y)) (λ y. inr (y.0, x ∙ y.1)) (S.some j)) (λ x. inr (x.0, both j x.1)) (T.some j) }
    where
      again : (j : ℕ) → marked marks₁ j || bend j ≡ marked marks j || bend j
      again j = ⊎_elim (λ y. ap (λ (t : Bool). t || bend j) y) (λ y. ap (λ (t : Bool). t || bend j) y.1 ∙ or_twice (marked marks j) (bend j)) (S.some j)

      both : (j : ℕ) → marked marks₂ j ≡ marked marks₁ j || bend j → marked marks₂ j ≡ marked marks j || bend j
      both j x = x ∙ again j

      left : (j : ℕ) → j < e → P j → marked marks₂ j ≡ marked marks j || bend j
      left j l p = ⊎_elim (λ x. x ∙ S.all j l p) (λ x. both j x.1) (T.some j)

      right : (j : ℕ) → j < e → Q j → marked marks₂ j ≡ marked marks j || bend j
      right j l q = both j (T.all j l q)

  -- one edge is seen
  pub seen_taken : (marks : List ℕ) (i : ℕ) (t : Bool) → i < e → i < length marks → BendTold i ends first second t → t ≡ true → BendsSeen (λ j. j ≡ i) e ends first second marks (set marks i 1)
  seen_taken marks i t h l T q = record { all = λ j k d. own j d; some = λ j. elim (ℕ_discrete j i) [ yes d ↦ inr (omega arith, own j d) | no n ↦ inl (mark_there marks i j n) ] }
    where
      own : (j : ℕ) → j ≡ i → marked (set marks i 1) j ≡ marked marks j || bend j
      own j d = mark_here marks i j l d ∙ or_yes (marked marks j) ∙ ap (λ (s : Bool). marked marks j || s) (sym q ∙ T.is [] ∙ ap bend (sym d))

  pub seen_left : (marks : List ℕ) (i : ℕ) (t : Bool) → BendTold i ends first second t → t ≡ false → BendsSeen (λ j. j ≡ i) e ends first second marks marks
  seen_left marks i t T q =
      record {
        all = λ j k d. sym (or_end (marked marks j)) ∙ ap (λ (s : Bool). marked marks j || s) (sym q ∙ T.is [] ∙ ap bend (sym d));
        some = λ j. inl refl;
      }

  -- every bend edge is seen
  pub seen_all : (P : ℕ → Type 0) (marks marks' : List ℕ) → ((j : ℕ) → j < e → bend j ≡ true → P j) → BendsSeen P e ends first second marks marks' → BetweenMarked e ends first second marks marks'
  seen_all P marks marks' h S =
      record {
        inside = λ B j l. by j l (bend j) refl;
        behind = λ j l. ⊎_elim (λ x. x) (λ x. absurd (omega (arith, x.0))) (S.some j);
      }
    where
      by : (j : ℕ) → j < e → (t : Bool) → bend j ≡ t → marked marks' j ≡ marked marks j || bend j
      by j l true q = S.all j l (h j l q)
      by j l false q = ⊎_elim (λ x. x ∙ sym (or_end (marked marks j)) ∙ ap (λ (s : Bool). marked marks j || s) (sym q)) (λ x. x.1) (S.some j)

-- ---- the bend edges at one particle

-- at the head of the loop: those of the first i edges that are at x are seen
pub record AtSeen (x e : ℕ) (ends first second marks₀ marks : List ℕ) (i : ℕ) : Type 0 where
  pub long : length marks ≡ length marks₀
  pub seen : BendsSeen (λ j. (j < i) × (at_edge ends x j ≡ true)) e ends first second marks₀ marks

module _ (x e : ℕ) (ends first second marks₀ : List ℕ) where
  pub at_start : AtSeen x e ends first second marks₀ marks₀ 0
  at_start = record { long = refl; seen = seen_none e ends first second _ marks₀ (λ j p. omega (arith, p.0)) }

  module _ (marks : List ℕ) (i : ℕ) (A : AtSeen x e ends first second marks₀ marks i) where
    pub at_skip : at_edge ends x i ≡ false → AtSeen x e ends first second marks₀ marks (suc i)
    at_skip n =
        record {
          long = A.long;
          seen = seen_less e ends first second _ _ marks₀ marks (λ j l q. elim (ℕ_discrete j i) [ yes d ↦ absurd (false_true n (ap (at_edge ends x) (sym d) ∙ q.1)) | no m ↦ (omega (arith, m, q.0), q.1) ]) A.seen;
        }

    more : (marks' : List ℕ) → length marks' ≡ length marks → BendsSeen (λ j. j ≡ i) e ends first second marks marks' → AtSeen x e ends first second marks₀ marks' (suc i)
    more marks' long T =
        record {
          long = long ∙ A.long;
          seen =
              seen_less e ends first second _ _ marks₀ marks' (λ j l q. elim (ℕ_discrete j i) [ yes d ↦ inr d | no m ↦ inl (omega (arith, m, q.0), q.1) ])
              (seen_then e ends first second _ _ marks₀ marks marks' A.seen T);
        }

    pub at_taken : (t : Bool) → i < e → i < length marks → BendTold i ends first second t → t ≡ true → AtSeen x e ends first second marks₀ (set marks i 1) (suc i)
    at_taken t h l T q = more (set marks i 1) (length-set marks i 1) (seen_taken e ends first second marks i t h l T q)

    pub at_left : (t : Bool) → BendTold i ends first second t → t ≡ false → AtSeen x e ends first second marks₀ marks (suc i)
    at_left t T q = more marks refl (seen_left e ends first second marks i t T q)

  pub at_done : (marks : List ℕ) → AtSeen x e ends first second marks₀ marks e → BendsAt x e ends first second marks₀ marks
  at_done marks A = seen_less e ends first second _ _ marks₀ marks (λ j l q. (l, q)) A.seen

-- ---- the bend edges at a side

-- one neighbour more of v
stands_more : (v x r : ℕ) (L N : List ℕ) → length N ≤ 1 → r ≡ head_or v N → stands x (L ++ N) ≡ true → (stands x L ≡ true) ⊎ (x ≡ r)
stands_more v x r L [] few e t = inl (ap (stands x) (sym (append-nil L)) ∙ t)
stands_more v x r L (y ∷ []) few e t =
    elim (ℕ_discrete x r) [
      | yes q ↦ inr q
      | no n ↦
          let none : stands x (y ∷ []) ≡ false = ap (λ (b : Bool). pick b true false) (ne_eqb y x (λ d. n (sym (e ∙ d)))) in
          inl (sym (stands_append x L (y ∷ []) ∙ ap (λ (b : Bool). stands x L || b) none ∙ or_end (stands x L)) ∙ t)
    ]
stands_more v x r L (y ∷ z ∷ N) few e t = absurd (omega arith)

-- edge j has an end at a neighbour of v along the first i edges, another than v
pub record NearSide (v w : ℕ) (ends : List ℕ) (i j : ℕ) : Type 0 where
  pub end : ℕ
  pub other : end ≡ v → ⊥
  pub near : stands end (along_first v w i ends []) ≡ true
  pub at : at_edge ends end j ≡ true

-- at the head of the loop: such edges are seen, and so are those at each particle but v that is marked as walked
pub record SideSeen (v w e : ℕ) (ends first second marks₀ marks walked : List ℕ) (i : ℕ) : Type 0 where
  pub long : length marks ≡ length marks₀
  pub wide : length walked ≡ 1024
  pub seen : BendsSeen (NearSide v w ends i) e ends first second marks₀ marks
  pub told : (y : ℕ) → get_or walked y 0 ≡ 1 → (y ≡ v) ⊎ BendsAt y e ends first second marks₀ marks

-- at first v alone is marked as walked
only_walked : (v y : ℕ) → v < 1024 → get_or {A = ℕ} (set (replicate 1024 0) v 1) y 0 ≡ 1 → y ≡ v
only_walked v y h q =
    ⊎_elim (λ s. s.0) (λ s. absurd (none_walked y (sym s.1 ∙ q))) (stored (replicate 1024 0) v 1 y (omega (arith, h, length-replicate {A = ℕ} 1024 0)))

module _ (v w e : ℕ) (ends first second marks₀ : List ℕ) where
  pub side_start : v < 1024 → SideSeen v w e ends first second marks₀ marks₀ (set (replicate 1024 0) v 1) 0
  unfolding edges_at tab sift besides
  side_start h =
      record {
        long = refl;
        wide = length-set (replicate 1024 0) v 1 ∙ length-replicate {A = ℕ} 1024 0;
        seen = seen_none e ends first second _ marks₀ (λ j q. false_true refl q.near);
        told = λ y q. inl (only_walked v y h q);
      }

  -- one edge more: such an edge has an end at a neighbour along those before, or at the new one
  near_more : (i r : ℕ) → NeighbourIs v w i ends r → (j : ℕ) → NearSide v w ends (suc i) j → NearSide v w ends i j ⊎ ((r ≡ v → ⊥) × (at_edge ends r j ≡ true))
  near_more i r N j q =
      ⊎_elim (λ y. inl (record { end = q.end; other = q.other; near = y; at = q.at })) (λ y. inr (λ d. q.other (y ∙ d), ap (λ (x : ℕ). at_edge ends x j) (sym y) ∙ q.at))
      (stands_more v q.end r (along_first v w i ends []) (near_by_of v w (row_at ends [] i)) (near_few v w (row_at ends [] i)) (N.is [])
      (ap (stands q.end) (sym (along_step v w i ends [])) ∙ q.near))

  module _ (marks walked : List ℕ) (i : ℕ) (A : SideSeen v w e ends first second marks₀ marks walked i) where
    pub side_skip : at_edge ends v i ≡ false → SideSeen v w e ends first second marks₀ marks walked (suc i)
    side_skip n =
        record {
          long = A.long;
          wide = A.wide;
          seen =
              seen_less e ends first second _ _ marks₀ marks
              (λ j l q. record { end = q.end; other = q.other; near = ap (stands q.end) (sym (along_skip v w i ends [] n)) ∙ q.near; at = q.at }) A.seen;
          told = A.told;
        }

    -- the edges at the neighbour were walked before: at v before the loop, at another since
    passed : (r : ℕ) → NeighbourIs v w i ends r → r < 1024 → (walked' : List ℕ) → WalkTold r walked walked' true → SideSeen v w e ends first second marks₀ marks walked' (suc i)
    passed r N h walked' W =
        subst (λ (l : List ℕ). SideSeen v w e ends first second marks₀ marks l (suc i)) (sym W.1)
        (record {
          long = A.long;
          wide = A.wide;
          seen = record { all = λ j l q. by j l (near_more i r N j q); some = A.seen.some };
          told = A.told;
        })
      where
        by : (j : ℕ) → j < e → NearSide v w ends i j ⊎ ((r ≡ v → ⊥) × (at_edge ends r j ≡ true)) → marked marks j ≡ marked marks₀ j || bend_at ends first second j
        by j l = ⊎_elim (A.seen.all j l) (λ y. ⊎_elim (λ d. absurd (y.0 d)) (λ S. S.all j l y.1) (A.told r (W.0 (omega (arith, h, A.wide)))))

    -- they were not, and are walked now
    walked_now : (r : ℕ) → NeighbourIs v w i ends r → (walked' : List ℕ) → WalkTold r walked walked' false → length walked' ≡ length walked
        → (marks' : List ℕ) → length marks' ≡ length marks → BendsAt r e ends first second marks marks' → SideSeen v w e ends first second marks₀ marks' walked' (suc i)
    walked_now r N walked' W wide marks' long T =
        record {
          long = long ∙ A.long;
          wide = wide ∙ A.wide;
          seen = seen_less e ends first second _ _ marks₀ marks' (λ j l q. ⊎_elim inl (λ y. inr y.1) (near_more i r N j q)) both;
          told = λ y h. ⊎_elim (λ s. inr (subst (λ (x : ℕ). BendsAt x e ends first second marks₀ marks') (sym s) here)) (λ s. ⊎_elim inl (λ S. inr (still y S)) (A.told y s)) (W y h);
        }
      where
        both : BendsSeen (λ j. NearSide v w ends i j ⊎ (at_edge ends r j ≡ true)) e ends first second marks₀ marks'
        both = seen_then e ends first second _ _ marks₀ marks marks' A.seen T

        here : BendsAt r e ends first second marks₀ marks'
        here = seen_less e ends first second _ _ marks₀ marks' (λ j l q. inr q) both

        still : (y : ℕ) → BendsAt y e ends first second marks₀ marks → BendsAt y e ends first second marks₀ marks'
        still y S = seen_less e ends first second _ _ marks₀ marks' (λ j l q. inl q) (seen_then e ends first second _ _ marks₀ marks marks' S T)

    -- both by what the test told
    module _ (r : ℕ) (N : NeighbourIs v w i ends r) (walked' : List ℕ) (t : Bool) (W : WalkTold r walked walked' t) (marks'' : List ℕ) where
      pub side_passed : r < 1024 → not t ≡ false → marks'' ≡ marks → SideSeen v w e ends first second marks₀ marks'' walked' (suc i)
      side_passed h q same =
          subst (λ (l : List ℕ). SideSeen v w e ends first second marks₀ l walked' (suc i)) (sym same) (passed r N h walked' (subst (WalkTold r walked walked') (was_true t q) W))

      pub side_more : not t ≡ true → length walked' ≡ length walked → (marks' : List ℕ) → length marks' ≡ length marks → BendsAt r e ends first second marks marks' → marks'' ≡ marks'
          → SideSeen v w e ends first second marks₀ marks'' walked' (suc i)
      side_more q wide marks' long T same =
          subst (λ (l : List ℕ). SideSeen v w e ends first second marks₀ l walked' (suc i)) (sym same)
          (walked_now r N walked' (subst (WalkTold r walked walked') (was_false t q) W) wide marks' long T)

  -- what is marked in the first side is v or a neighbour
  near_by : SideMarked v w e ends first → (x : ℕ) → x < length first → only_by first second x ≡ true → stands x (v ∷ along_first v w e ends []) ≡ true
  unfolding side_along straps_at
  near_by F x h o = sym (F.marks (record { particles = []; triangles = []; edges = edges_at e ends []; boundary = [] }) [] refl x h) ∙ and_left (marked first x) _ o
    where
      and_left : (s t : Bool) → s && t ≡ true → s ≡ true
      and_left true t q = refl
      and_left false t q = absurd (false≢true q)

  -- an edge with an end there is met at v or at a neighbour
  met : SideMarked v w e ends first → (x j : ℕ) → x < length first → only_by first second x ≡ true → at_edge ends x j ≡ true → (at_edge ends v j ≡ true) ⊎ NearSide v w ends e j
  met F x j h o t =
      elim (ℕ_discrete v x) [
        | yes d ↦ inl (ap (λ (y : ℕ). at_edge ends y j) d ∙ t)
        | no n ↦ inr (record { end = x; other = λ d. n (sym d); near = ap (λ (b : Bool). pick b true (stands x (along_first v w e ends []))) (sym (ne_eqb v x n)) ∙ near_by F x h o; at = t })
      ]

  -- a bend edge has an end there
  pub side_done : (marks marks' walked : List ℕ) → EndsBelow 1024 e ends → 1024 ≤ length first → SideMarked v w e ends first → BendsAt v e ends first second marks marks₀
      → SideSeen v w e ends first second marks₀ marks' walked e → BetweenMarked e ends first second marks marks'
  side_done marks marks' walked E lf F T A = seen_all e ends first second _ marks marks' (λ j l q. by j l q _ refl _ refl) (seen_then e ends first second _ _ marks marks₀ marks' T A.seen)
    where
      by : (j : ℕ) → j < e → bend_at ends first second j ≡ true → (s : Bool) → only_by first second (get_or ends j 0) ≡ s → (t : Bool) → only_by first second (get_or ends (length ends / 4 + j) 0) ≡ t
          → (at_edge ends v j ≡ true) ⊎ NearSide v w ends e j
      by j l q true x t y = let b = E.first j l in met F (get_or ends j 0) j (omega arith) x (at_first ends j)
      by j l q false x true y = let b = E.second j l in met F (get_or ends (length ends / 4 + j) 0) j (omega arith) y (at_second ends j)
      by j l q false x false y = absurd (false_true (bend_none j ends first second x y) q)

-- ---- the numbers of the edges that pass

module _ (p : Edge → Bool) (f : ℕ → Edge) where
  abbrev one : ℕ → List ℕ
  one k = pick (p (f k)) (k ∷ []) []

  numbers_tab : (n : ℕ) → numbers_of p (tab n f) ≡ each (λ (l : List ℕ). l) (tab n one)
  unfolding numbers_of
  numbers_tab n = ap (each (λ (l : List ℕ). l)) (rows_map (λ i e. pick (p e) (i ∷ []) []) n f)

  stands_one : (j k : ℕ) → (j ≡ k → ⊥) → stands j (one k) ≡ false
  stands_one j k n = pick_by (λ (l : List ℕ). stands j l ≡ false) (p (f k)) (ap (λ (t : Bool). pick t true false) (ne_eqb k j (λ d. n (sym d)))) refl

  stands_self : (j : ℕ) → stands j (one j) ≡ p (f j)
  stands_self j = by (p (f j))
    where
      by : (t : Bool) → stands j (pick t (j ∷ []) []) ≡ t
      by true = ap (λ (s : Bool). pick s true false) (eq-eqb j j refl)
      by false = refl

  numbers_step : (n j : ℕ) → stands j (numbers_of p (tab (n + 1) f)) ≡ stands j (numbers_of p (tab n f)) || stands j (one n)
  numbers_step n j =
      ap (stands j) (numbers_tab (n + 1) ∙ each_step (λ (l : List ℕ). l) one n ∙ ap (λ (l : List ℕ). l ++ one n) (sym (numbers_tab n))) ∙ stands_append j (numbers_of p (tab n f)) (one n)

  numbers_behind : (n j : ℕ) → n ≤ j → stands j (numbers_of p (tab n f)) ≡ false
  unfolding numbers_of tab map_at_of each
  numbers_behind zero j h = refl
  numbers_behind (suc n) j h =
      ap (λ (m : ℕ). stands j (numbers_of p (tab m f))) (sym (add-one n)) ∙ numbers_step n j
      ∙ ap₂ ◌||◌ (numbers_behind n j (omega arith)) (stands_one j n (λ d. omega arith))

  numbers_inside : (n j : ℕ) → j < n → stands j (numbers_of p (tab n f)) ≡ p (f j)
  numbers_inside zero j h = absurd (not-suc-le-zero h)
  numbers_inside (suc n) j h =
      ap (λ (m : ℕ). stands j (numbers_of p (tab m f))) (sym (add-one n)) ∙ numbers_step n j
      ∙ elim (ℕ_discrete j n) [
        | yes d ↦ ap₂ ◌||◌ (numbers_behind n j (omega arith)) (ap (λ (m : ℕ). stands j (one m)) (sym d) ∙ stands_self j)
        | no m ↦ ap₂ ◌||◌ (numbers_inside n j (omega (arith, m))) (stands_one j n m) ∙ or_end (p (f j))
      ]

-- ---- the bend edges over a strap

only_is : (first second sa sb : List ℕ) (w : ℕ) → marked first w ≡ stands w sa → marked second w ≡ stands w sb → only_by first second w ≡ only sa sb w
only_is first second sa sb w p q = ap₂ (λ (x y : Bool). x && not y) p q

lt_or_le : (j n : ℕ) → (j < n) ⊎ (n ≤ j)
lt_or_le j zero = inr (omega arith)
lt_or_le j (suc n) = ⊎_elim (λ l. inl (omega arith)) (λ l. elim (ℕ_discrete j n) [ yes d ↦ inl (omega arith) | no m ↦ inr (omega (arith, m)) ]) (lt_or_le j n)

pub bends_marked :
    (a b e : ℕ) (ends first second marks marks' : List ℕ) → EndsBelow 1024 e ends → 1024 ≤ length first → 1024 ≤ length second → SideMarked a b e ends first → SideMarked b a e ends second
    → BetweenMarked e ends first second marks marks' → BendsMarked a b e ends marks marks'
unfolding bends_over bends edges_at
bends_marked a b e ends first second marks marks' E lf ls F S T =
    record {
      over =
          λ M B q j.
          let sa = side_along M a b in
          let sb = side_along M b a in
          let list : stands j (bends_over M a b) ≡ stands j (numbers_of (bends sa sb) (tab e (row_at ends B))) = ap (λ (l : List Edge). stands j (numbers_of (bends sa sb) l)) q in
          let below : (w : ℕ) → w < 1024 → (marked first w ≡ stands w sa) × (marked second w ≡ stands w sb) = λ w l. (F.marks M B q w (omega arith), S.marks M B q w (omega arith)) in
          let same : (k : ℕ) → k < e → bend_by first second (row_at ends B k) ≡ bends sa sb (row_at ends B k) =
          λ k l.
          let x = below (row_at ends B k).a (subst (λ (z : ℕ). z < 1024) (sym (col_0 0 (length ends / 4) ends k)) (E.first k l)) in
          let y = below (row_at ends B k).b (subst (λ (z : ℕ). z < 1024) (sym (col_1 0 (length ends / 4) ends k)) (E.second k l)) in
          ap₂ (λ (s t : Bool). not (structural? (row_at ends B k)) && (s || t))
          (ap₂ ◌&&◌ (only_is first second sa sb (row_at ends B k).a x.0 x.1) (only_is second first sb sa (row_at ends B k).b y.1 y.0))
          (ap₂ ◌&&◌ (only_is second first sb sa (row_at ends B k).a x.1 x.0) (only_is first second sa sb (row_at ends B k).b y.0 y.1)) in
          by M B q j list same;
    }
  where
    by : (M : Mesh) (B : List Float) → M.edges ≡ edges_at e ends B → (j : ℕ)
        → stands j (bends_over M a b) ≡ stands j (numbers_of (bends (side_along M a b) (side_along M b a)) (tab e (row_at ends B)))
        → ((k : ℕ) → k < e → bend_by first second (row_at ends B k) ≡ bends (side_along M a b) (side_along M b a) (row_at ends B k)) → marked marks' j ≡ marked marks j || stands j (bends_over M a b)
    by M B q j list same =
        let p = bends (side_along M a b) (side_along M b a) in
        let inside : j < e → marked marks' j ≡ marked marks j || stands j (bends_over M a b) =
        λ l. T.inside B j l ∙ ap (λ (t : Bool). marked marks j || t) (same j l ∙ sym (list ∙ numbers_inside p (row_at ends B) e j l)) in
        let behind : e ≤ j → marked marks' j ≡ marked marks j || stands j (bends_over M a b) =
        λ l. T.behind j l ∙ sym (or_end (marked marks j)) ∙ ap (λ (t : Bool). marked marks j || t) (sym (list ∙ numbers_behind p (row_at ends B) e j l)) in
        ⊎_elim inside behind (lt_or_le j e)
