-- Laws of the other edges at v: rows of the edges, a walk along a ring, one edge, and all edges in turn. Assumes nothing.
use mathlib.Core.Path.{◌≡◌, refl, sym, ◌∙◌, ap, ap₂, subst}
use mathlib.Core.Logic.{◌⊎◌, inl, inr}
use mathlib.Core.Bool.{Bool, true, false, not, ◌&&◌, false≢true}
use mathlib.Core.List.{List, [], ◌∷◌, ◌++◌, map, map-append, append-nil, append_assoc}
use Prim.Native.Nat.{ℕ, zero, suc, ◌+◌, ◌/◌, ◌-◌, ◌<◌, ◌≤◌, zero-le, suc-le-suc}
use native.Mathlib.Omega.{arith}
use native.Mathlib.Numerals.{add-one}
use borrow.Author.Tests.{eq-eqb, le-leb, lt-leb, leb-false}
use lib.Dec.{eqb, leb}
use lib.ListN.{length, get_or, take, drop, set, length-append, length-map, length-drop, get_or-append, take-append-drop}
use lib.Seq.{drop-cons, take-suc, set_at, get_or_at, take-length, drop-length, set-get_or, length-take-le}
use lib.Ieee.{Float, neg, lt}
use Rattle.lists.specs.Lists.{pick, stands, each, tab, fold, head_or, rest, or_else, sift, up_to}
use Rattle.lists.proofs.Stores.{tab_length, tab_at}
use Rattle.lists.proofs.Sifts.{pick_by, and_true, each_append, sift_stands, rising_stands, up_to_below}
use Rattle.lists.proofs.Rows.{rows_store}
use Rattle.float.specs.Numbers.{largest}
use Rattle.blade.specs.declared.Point.{Point}
use Rattle.blade.specs.Points.{sum_of, minus_of}
use Rattle.columns.proofs.Cells.{col_0, col_1}
use Rattle.model.specs.Mesh.{Edge, Mesh, blank_edge}
use Rattle.model.specs.Elements.{Kind, element?, ends_of, far_end_of, besides, rest_of}
use Rattle.model.specs.Split.{Part, Opening, Best, better, score_of, scored, toward, ring, edge_groups, copy_for_of, moved, calm, stayed, doubled, other_edges}
use Rattle.mesh.specs.At.{edges_at}
use Rattle.split_plan.specs.Opened.{part_at, Ringed, ring_from, OpeningIn}
use Rattle.split_plan.specs.Answers.{NextGroup, CopyIs}
use Rattle.split_plan.proofs.Rings.{ring_next, ring_first}
use Rattle.split_plan.proofs.Weights.{fan_tab}
use Rattle.rewire.specs.Stages.{EdgesGrown}
use Rattle.work.specs.Rows.{GrownTo, Between}
use Rattle.mesh.specs.Workers.{row_at}
use Rattle.copies.specs.Ends.{EndsMoved}
use Rattle.rewire.specs.Edges.{SameRows, CopiesGrown, EdgeSettled, NextNamed}
use Rattle.std.specs.Prelude.{Option, None, Some}
use Rattle.work.proofs.Grows.{grown_all, edges_many, edges_get}

-- ---- rows of the edges

module _ (n : ℕ) (A A' : List ℕ) (B B' : List Float) where
  -- one row that changed
  pub set_edges : (i : ℕ) (a : Edge) → ((j : ℕ) → j < n → (j ≡ i → ⊥) → row_at A' B' j ≡ row_at A B j) → row_at A' B' i ≡ a → edges_at n A' B' ≡ set (edges_at n A B) i a
  unfolding edges_at
  set_edges i a h e = rows_store n (row_at A B) (row_at A' B') i a h e

  -- an append leaves the rows before it
  pub pushed_same : (x : Edge) → edges_at (n + 1) A' B' ≡ edges_at n A B ++ (x ∷ []) → SameRows n A A' B B'
  unfolding edges_at
  pushed_same x e j l =
      sym (tab_at (n + 1) (row_at A' B') j blank_edge (omega arith))
      ∙ ap (λ (s : List Edge). get_or s j blank_edge) e
      ∙ get_or-append (tab n (row_at A B)) (x ∷ []) blank_edge j (omega (arith, tab_length n (row_at A B)))
      ∙ tab_at n (row_at A B) j blank_edge l

-- ---- a walk along a ring

-- the first of a list that is not the number for none
head_on : (d g : ℕ) (l : List ℕ) → g ≡ head_or d l → g < d → l ≡ g ∷ rest l
head_on d g [] e h = absurd (omega arith)
head_on d g (a ∷ l) e h = ap (λ (z : ℕ). z ∷ l) (sym e)

ring_below : (O : Opening) (x g : ℕ) → stands g (ring O x) ≡ true → g < O.count
unfolding ring
ring_below O x g e =
    let l = map (λ (p : Part). p.group) (sift (λ (p : Part). stands x p.corners) O.fan) in
    up_to_below O.count g (and_true (stands g l) (stands g (up_to O.count)) (sym (rising_stands O.count l g) ∙ e)).1

from_below : (O : Opening) (from x g : ℕ) → stands g (ring_from O from x) ≡ true → g < O.count
unfolding ring_from
from_below O from x g e = ring_below O x g (and_true (leb from g) (stands g (ring O x)) (sym (sift_stands (λ h. leb from h) g (ring O x)) ∙ e)).1

none_from : (c g : ℕ) (l : List ℕ) → ((a : ℕ) → stands a l ≡ true → a < c) → g ≡ head_or c l → c ≤ g → l ≡ []
none_from c g [] b e h = refl
none_from c g (a ∷ l) b e h = let q : stands a (a ∷ l) ≡ true = rw (eq-eqb a a refl) in absurd (omega (arith, b a q))

module _ (O : Opening) (from x count g : ℕ) (q : O.count ≡ count) (e : g ≡ head_or count (ring_from O from x)) where
  -- a group that is there, and those behind it
  pub walk_on : g < count → ring_from O from x ≡ g ∷ ring_from O (g + 1) x
  walk_on h =
      head_on count g (ring_from O from x) e h
      ∙ ap (λ (l : List ℕ). g ∷ l) (sym (ring_next O from x g (subst (λ (c : ℕ). g ≡ head_or c (ring_from O from x)) (sym q) e) (omega arith)))

  -- none is left
  pub walk_end : count ≤ g → ring_from O from x ≡ []
  walk_end h = none_from count g (ring_from O from x) (λ a s. omega (arith, from_below O from x a s)) e h

-- ---- copies of one edge

-- the copy of e for group g
abbrev copy_as : ℕ → ℕ → Edge → ℕ → Edge
copy_as v before e g = calm (moved v (copy_for_of v before g) e)

-- at the head of the loop: g is the next group, and its copy comes next
pub record Growing (e : Edge) (x from v before k n count m room : ℕ) (verts groups ends₀ ends : List ℕ) (lengths₀ lengths : List Float) (rows g : ℕ) : Type 0 where
  pub coming :
      (O : Opening) → Ringed k O n verts groups → O.count ≡ count
      → (f : ℕ) × ((g ≡ head_or count (ring_from O f x)) × (edges_at rows ends lengths ++ map (copy_as v before e) (ring_from O f x) ≡ edges_at m ends₀ lengths₀ ++ map (copy_as v before e) (ring_from O from x)))
  pub same : SameRows m ends₀ ends lengths₀ lengths
  pub least : m ≤ rows
  pub most : rows ≤ room
  pub ends_long : length ends ≡ length ends₀
  pub lengths_long : length lengths ≡ length lengths₀

pub growing_start : (e : Edge) (x from v before k n count m room : ℕ) (verts groups ends₀ : List ℕ) (lengths₀ : List Float) (g : ℕ) → m ≤ room → NextGroup x from count n k verts groups g
    → Growing e x from v before k n count m room verts groups ends₀ ends₀ lengths₀ lengths₀ m g
growing_start e x from v before k n count m room verts groups ends₀ lengths₀ g h N =
    record {
      coming = λ O R q. (from, (N.is O R q, refl));
      same = λ j l. refl;
      least = omega arith;
      most = h;
      ends_long = refl;
      lengths_long = refl;
    }

-- a list with one more, as a loop appends it
one_more : {A : Type 0} (now now' l all : List A) (a : A) → now' ≡ now ++ (a ∷ []) → now ++ (a ∷ l) ≡ all → now' ++ l ≡ all
one_more {A} now now' l all a e q = ap (λ (s : List A). s ++ l) e ∙ append_assoc now (a ∷ []) l ∙ q

module _ {e : Edge} {x from v before k n count m room : ℕ} {verts groups ends₀ ends : List ℕ} {lengths₀ lengths : List Float} {rows g : ℕ}
    (G : Growing e x from v before k n count m room verts groups ends₀ ends lengths₀ lengths rows g) where
  -- what is to come, where a group is left
  next_comes : (O : Opening) → Ringed k O n verts groups → O.count ≡ count → g < count
      → edges_at rows ends lengths ++ (copy_as v before e g ∷ map (copy_as v before e) (ring_from O (g + 1) x)) ≡ edges_at m ends₀ lengths₀ ++ map (copy_as v before e) (ring_from O from x)
  next_comes O R q h =
      let C = G.coming O R q in
      ap (λ (l : List ℕ). edges_at rows ends lengths ++ map (copy_as v before e) l) (sym (walk_on O C.0 x count g q C.1.0 h)) ∙ C.1.1

  -- a copy was appended
  pub growing_step : (ends' : List ℕ) (lengths' : List Float) (w g' : ℕ) (copy : Edge) → g < count → rows < room → CopyIs v before count g w → copy ≡ calm (moved v w e)
      → edges_at (rows + 1) ends' lengths' ≡ edges_at rows ends lengths ++ (copy ∷ []) → length ends' ≡ length ends → length lengths' ≡ length lengths → NextGroup x (g + 1) count n k verts groups g'
      → Growing e x from v before k n count m room verts groups ends₀ ends' lengths₀ lengths' (rows + 1) g'
  growing_step ends' lengths' w g' copy h l C ec a le ll N =
      let low = G.least in
      let is : copy ≡ copy_as v before e g = ec ∙ ap (λ (z : ℕ). calm (moved v z e)) (C.is (inr h)) in
      let kept = pushed_same rows ends ends' lengths lengths' copy a in
      record {
        coming =
            λ O R q. (
              g + 1,
              (
                N.is O R q,
                one_more (edges_at rows ends lengths) (edges_at (rows + 1) ends' lengths') (map (copy_as v before e) (ring_from O (g + 1) x))
                    (edges_at m ends₀ lengths₀ ++ map (copy_as v before e) (ring_from O from x)) (copy_as v before e g)
                    (a ∙ ap (λ (z : Edge). edges_at rows ends lengths ++ (z ∷ [])) is) (next_comes O R q h),
              ),
            );
        same = λ j b. kept j (omega arith) ∙ G.same j b;
        least = omega arith;
        most = omega arith;
        ends_long = le ∙ G.ends_long;
        lengths_long = ll ∙ G.lengths_long;
      }

  -- a copy has no room
  pub growing_lacks : g < count → rows ≡ room → CopiesGrown e x from v before k n count m room verts groups ends₀ ends lengths₀ lengths None
  growing_lacks h l =
      record {
        copies =
            λ O R q.
            lt-leb _ room
            (subst (λ (s : List Edge). room < length s) (next_comes O R q h)
            (rw length-append (omega (arith, edges_many rows ends lengths))));
        same = G.same;
        between = zero-le;
      }

  -- every copy was appended
  pub growing_done : count ≤ g → CopiesGrown e x from v before k n count m room verts groups ends₀ ends lengths₀ lengths (Some rows)
  growing_done h =
      record {
        copies =
            λ O R q.
            let C = G.coming O R q in
            let all : edges_at rows ends lengths ≡ edges_at m ends₀ lengths₀ ++ map (copy_as v before e) (ring_from O from x) =
            sym (append-nil (edges_at rows ends lengths))
            ∙ ap (λ (l : List ℕ). edges_at rows ends lengths ++ map (copy_as v before e) l) (sym (walk_end O C.0 x count g q C.1.0 h)) ∙ C.1.1 in
            let many : rows ≡ length (edges_at m ends₀ lengths₀ ++ map (copy_as v before e) (ring_from O from x)) = sym (edges_many rows ends lengths) ∙ ap length all in
            (le-leb _ room (subst (λ (z : ℕ). z ≤ room) many G.most), many, all);
        same = G.same;
        between = (G.least, G.most);
      }

-- ---- the direction of a group

-- what f keeps, a fold keeps: over any list, and over a table
fold_keeps : {A B : Type 0} (P : B → Type 0) (f : B → A → B) → ((b : B) (a : A) → P b → P (f b a)) → (b : B) (l : List A) → P b → P (fold f b l)
unfolding fold
fold_keeps P f h b [] p = p
fold_keeps P f h b (a ∷ l) p = fold_keeps P f h (f b a) l (h b a p)

fold_tab_keeps : {A B : Type 0} (P : B → Type 0) (f : B → A → B) (n : ℕ) (g : ℕ → A) → ((k : ℕ) → k < n → (b : B) → P b → P (f b (g k))) → (b : B) → P b → P (fold f b (tab n g))
unfolding fold tab
fold_tab_keeps P f zero g h b p = p
fold_tab_keeps P f (suc n) g h b p =
    fold_tab_keeps P f n (λ k. g (suc k)) (λ k l. h (suc k) (suc-le-suc l)) (f b (g 0)) (h 0 (suc-le-suc zero-le) b p)

-- a group that is 0 or some group
abbrev SomeGroup : ℕ → ℕ → Type 0
SomeGroup c g = (g ≡ 0) ⊎ (g < c)

scored_some : (c : ℕ) (M : Mesh) (v : ℕ) (dir : Point) (b : Best) (p : Part) → p.group < c → SomeGroup c b.group → SomeGroup c (scored M v dir b p).group
unfolding scored
scored_some c M v dir b p h s =
    fold_keeps (λ (q : Best). SomeGroup c q.group) (λ (q : Best) w. better q (score_of M v dir w) p.group)
    (λ q w r. pick_by (λ (z : Best). SomeGroup c z.group) (lt q.score (score_of M v dir w)) {x = record { score = score_of M v dir w; group = p.group }} {y = q} (inr h) r)
    b (besides v p.corners) s

pub toward_some : {k n : ℕ} {verts groups : List ℕ} (M : Mesh) (O : Opening) (x : ℕ) → Ringed k O n verts groups → SomeGroup O.count (toward M O x)
unfolding toward
toward_some {k} {n} M O x R =
    let dir = sum_of (minus_of (rest_of M x) (rest_of M O.v) ∷ []) in
    let none : Best = record { score = neg largest; group = 0 } in
    subst (λ (l : List Part). SomeGroup O.count (fold (scored M O.v dir) none l).group) (sym (fan_tab O n R.size))
    (fold_tab_keeps (λ (q : Best). SomeGroup O.count q.group) (scored M O.v dir) n (part_at O)
    (λ i l b s. scored_some O.count M O.v dir b (part_at O i) (omega (arith, R.below i l, R.group_is i l)) s) none (inl refl))

-- ---- one edge

module _ (K : Kind) (M : Mesh) (O : Opening) (v before : ℕ) (e : Edge) (at : O.v ≡ v) (first : O.before ≡ before) where
  other_at : (t : Bool) → not (element? K e) && stands v (ends_of e) ≡ t → not (element? K e) && stands O.v (ends_of e) ≡ t
  other_at t h = subst (λ (u : ℕ). not (element? K e) && stands u (ends_of e) ≡ t) (sym at) h

  -- no other edge
  pub stayed_not : not (element? K e) && stands v (ends_of e) ≡ false → stayed K M O e ≡ e
  unfolding stayed
  stayed_not h = ap (λ (t : Bool). pick t (moved O.v (copy_for_of O.v O.before (head_or 0 (edge_groups M O (far_end_of O.v e)))) e) e) (other_at false h)

  pub doubled_not : not (element? K e) && stands v (ends_of e) ≡ false → doubled K M O e ≡ []
  unfolding doubled
  doubled_not h = ap (λ (t : Bool). pick t (map (λ g. calm (moved O.v (copy_for_of O.v O.before g) e)) (rest (edge_groups M O (far_end_of O.v e)))) []) (other_at false h)

  -- one with its groups
  pub stayed_to : (g : ℕ) (l : List ℕ) → not (element? K e) && stands v (ends_of e) ≡ true → edge_groups M O (far_end_of v e) ≡ g ∷ l → stayed K M O e ≡ moved v (copy_for_of v before g) e
  unfolding stayed
  stayed_to g l h q =
      ap (λ (t : Bool). pick t (moved O.v (copy_for_of O.v O.before (head_or 0 (edge_groups M O (far_end_of O.v e)))) e) e) (other_at true h)
      ∙ ap₂ (λ (u b : ℕ). moved u (copy_for_of u b (head_or 0 (edge_groups M O (far_end_of u e)))) e) at first
      ∙ ap (λ (s : List ℕ). moved v (copy_for_of v before (head_or 0 s)) e) q

  pub doubled_to : (g : ℕ) (l : List ℕ) → not (element? K e) && stands v (ends_of e) ≡ true → edge_groups M O (far_end_of v e) ≡ g ∷ l → doubled K M O e ≡ map (copy_as v before e) l
  unfolding doubled
  doubled_to g l h q =
      ap (λ (t : Bool). pick t (map (λ g. calm (moved O.v (copy_for_of O.v O.before g) e)) (rest (edge_groups M O (far_end_of O.v e)))) []) (other_at true h)
      ∙ ap₂ (λ (u b : ℕ). map (copy_as u b e) (rest (edge_groups M O (far_end_of u e)))) at first
      ∙ ap (λ (s : List ℕ). map (copy_as v before e) (rest s)) q

-- what the test of an edge says of the row that it was read from
pub test_at : (K : Kind) (v : ℕ) (e e' : Edge) (r t : Bool) → e ≡ e' → r ≡ (not (element? K e) && stands v (ends_of e)) → r ≡ t → not (element? K e') && stands v (ends_of e') ≡ t
test_at K v e e' r t q h d = subst (λ (z : Edge). not (element? K z) && stands v (ends_of z) ≡ t) q (sym h ∙ d)

-- the far end of an other edge rests in the block
pub not_first : (s t : Bool) → not s && t ≡ true → s ≡ false
not_first true t e = absurd (false≢true e)
not_first false t e = refl

pub far_below : (K : Kind) (v p x : ℕ) (e : Edge) → not (element? K e) && stands v (ends_of e) ≡ true → (element? K e ≡ false → (e.a < p) × (e.b < p)) → x ≡ far_end_of v e → x < p
far_below K v p x e h b q =
    let l = b (not_first (element? K e) (stands v (ends_of e)) h) in
    subst (λ (z : ℕ). z < p) (sym q) (pick_by (λ (z : ℕ). z < p) (eqb e.a v) l.1 l.0)

-- the groups of an edge, by the ring of its far end
groups_some : (M : Mesh) (O : Opening) (x g : ℕ) (l : List ℕ) → ring O x ≡ g ∷ l → edge_groups M O x ≡ g ∷ l
unfolding edge_groups
groups_some M O x g l e = ap (λ (s : List ℕ). or_else s (toward M O x ∷ [])) e

groups_none : (M : Mesh) (O : Opening) (x : ℕ) → ring O x ≡ [] → edge_groups M O x ≡ toward M O x ∷ []
unfolding edge_groups
groups_none M O x e = ap (λ (s : List ℕ). or_else s (toward M O x ∷ [])) e

module _ (K : Kind) (i v before k n count p m room : ℕ) (verts groups : List ℕ) (points : List Float) (ends : List ℕ) (lengths : List Float) (inside : i < m) (few : m ≤ room) (wide : room ≤ length ends / 4) where
  -- an edge that is no other edge
  pub settled_none : not (element? K (row_at ends lengths i)) && stands v (ends_of (row_at ends lengths i)) ≡ false
      → EdgeSettled K i v before k n count p m room verts groups points ends ends lengths lengths (Some m)
  settled_none h =
      record {
        settled =
            λ O M I.
            let e = row_at ends lengths i in
            grown_all m room _ (λ q. edges_at q ends lengths) (edges_many m ends lengths) few
            (sym (set-get_or (edges_at m ends lengths) i blank_edge)
            ∙ ap (λ (z : Edge). set (edges_at m ends lengths) i z) (edges_get m ends lengths i inside ∙ sym (stayed_not K M O v before e I.at I.before_is h))
            ∙ sym (append-nil _)
            ∙ ap (λ (z : List Edge). set (edges_at m ends lengths) i (stayed K M O e) ++ z) (sym (doubled_not K M O v before e I.at I.before_is h)));
        others = λ j l d. refl;
        between = (omega arith, few);
      }

  module _ (x : ℕ) (far : x ≡ far_end_of v (row_at ends lengths i)) (other : not (element? K (row_at ends lengths i)) && stands v (ends_of (row_at ends lengths i)) ≡ true) (w : ℕ) (ends₁ : List ℕ) (moves : EndsMoved i v w ends ends₁) where
    -- the row is moved and the others are as they were
    others₁ : (j : ℕ) → j < m → (j ≡ i → ⊥) → row_at ends₁ lengths j ≡ row_at ends lengths j
    others₁ j l d = moves.others lengths j (omega arith) d

    moved_list : (M : Mesh) (O : Opening) (g : ℕ) (l : List ℕ) → O.v ≡ v → O.before ≡ before → edge_groups M O x ≡ g ∷ l → w ≡ copy_for_of v before g
        → edges_at m ends₁ lengths ++ map (copy_as v before (row_at ends lengths i)) l ≡ set (edges_at m ends lengths) i (stayed K M O (row_at ends lengths i)) ++ doubled K M O (row_at ends lengths i)
    moved_list M O g l at first q c =
        let e = row_at ends lengths i in
        let q' : edge_groups M O (far_end_of v e) ≡ g ∷ l = ap (edge_groups M O) (sym far) ∙ q in
        ap₂ (λ (s t : List Edge). s ++ t)
        (set_edges m ends ends₁ lengths lengths i (stayed K M O e) others₁ (moves.here lengths ∙ ap (λ (z : ℕ). moved v z e) c ∙ sym (stayed_to K M O v before e at first g l other q')))
        (sym (doubled_to K M O v before e at first g l other q'))

    -- an edge whose far end has groups
    pub settled_some : (g : ℕ) (ends' : List ℕ) (lengths' : List Float) (r : Option ℕ) (e : Edge) → e ≡ row_at ends lengths i → NextGroup x 0 count n k verts groups g → g < count → CopyIs v before count g w
        → CopiesGrown e x (g + 1) v before k n count m room verts groups ends₁ ends' lengths lengths' r
        → EdgeSettled K i v before k n count p m room verts groups points ends ends' lengths lengths' r
    settled_some g ends' lengths' r e at_row N h C G₀ =
        let G = subst (λ (z : Edge). CopiesGrown z x (g + 1) v before k n count m room verts groups ends₁ ends' lengths lengths' r) at_row G₀ in
        record {
          settled =
              λ O M I.
              let R = I.ringed in
              let ring_is : ring O x ≡ g ∷ ring_from O (g + 1) x = sym (ring_first O x) ∙ walk_on O 0 x count g I.count_is (N.is O R I.count_is) h in
              subst (λ (l : List Edge). GrownTo r room l (λ q. edges_at q ends' lengths'))
              (moved_list M O g (ring_from O (g + 1) x) I.at I.before_is (groups_some M O x g (ring_from O (g + 1) x) ring_is) (C.is (inr h)))
              (G.copies O R I.count_is);
          others = λ j l d. G.same j l ∙ others₁ j l d;
          between = G.between;
        }

    -- an edge whose far end has none goes to the group that points to it
    pub settled_toward : (f g : ℕ) → NextGroup x 0 count n k verts groups f → count ≤ f → CopyIs v before count g w
        → ((O : Opening) (M : Mesh) → OpeningIn O M v before k n count p verts groups points → g ≡ toward M O x)
        → EdgeSettled K i v before k n count p m room verts groups points ends ends₁ lengths lengths (Some m)
    settled_toward f g N h C T =
        record {
          settled =
              λ O M I.
              let R = I.ringed in
              let none : ring O x ≡ [] = sym (ring_first O x) ∙ walk_end O 0 x count f I.count_is (N.is O R I.count_is) h in
              let t = T O M I in
              let some : SomeGroup count g = subst (λ (c : ℕ). SomeGroup c g) I.count_is (subst (SomeGroup O.count) (sym t) (toward_some M O x R)) in
              grown_all m room _ (λ q. edges_at q ends₁ lengths) (edges_many m ends₁ lengths) few
              (sym (append-nil _)
              ∙ moved_list M O g [] I.at I.before_is (groups_none M O x none ∙ ap (λ (z : ℕ). z ∷ []) (sym t)) (C.is some));
          others = others₁;
          between = (omega arith, few);
        }

-- ---- all edges in turn

module _ {A : Type 0} (f : A → A) (h : A → List A) where
  -- i elements were passed: f changed each, and what h makes of each stands behind the list
  pub passed : ℕ → List A → List A
  passed i l = map f (take i l) ++ (drop i l ++ each h (take i l))

  passed_start : (l : List A) → l ≡ passed 0 l
  unfolding passed each
  passed_start l = sym (append-nil l)

  passed_end : (l : List A) → passed (length l) l ≡ map f l ++ each h l
  unfolding passed
  passed_end l =
      ap₂ (λ (s t : List A). map f s ++ (t ++ each h s)) (take-length l) (drop-length l)

  front_long : (i : ℕ) (l : List A) → i ≤ length l → length (map f (take i l)) ≡ i
  front_long i l b = length-map (take i l) f ∙ length-take-le i l b

  module _ (l : List A) (i : ℕ) (d : A) (b : i < length l) where
    -- how it stands at place i
    passed_open : passed i l ≡ map f (take i l) ++ (get_or l i d ∷ (drop (suc i) l ++ each h (take i l)))
    unfolding passed
    passed_open = ap (λ (s : List A). map f (take i l) ++ (s ++ each h (take i l))) (drop-cons l i d b)

    passed_get : get_or (passed i l) i d ≡ get_or l i d
    passed_get =
        ap (λ (s : List A). get_or s i d) passed_open
        ∙ get_or_at (map f (take i l)) (get_or l i d) (drop (suc i) l ++ each h (take i l)) d i (front_long i l (omega arith))

    passed_step : set (passed i l) i (f (get_or l i d)) ++ h (get_or l i d) ≡ passed (i + 1) l
    unfolding passed each
    passed_step =
        let a = get_or l i d in
        let F = map f (take i l) in
        let D = drop (suc i) l in
        let E = each h (take i l) in
        let t : take (i + 1) l ≡ take i l ++ (a ∷ []) = ap (λ (z : ℕ). take z l) (add-one i) ∙ take-suc l i d b in
        let left : set (passed i l) i (f a) ++ h a ≡ F ++ (f a ∷ (D ++ (E ++ h a))) =
        ap (λ (s : List A). s ++ h a) (ap (λ (s : List A). set s i (f a)) passed_open ∙ set_at F a (D ++ E) (f a) i (front_long i l (omega arith)))
        ∙ append_assoc F (f a ∷ (D ++ E)) (h a)
        ∙ ap (λ (s : List A). F ++ (f a ∷ s)) (append_assoc D E (h a)) in
        let right : passed (i + 1) l ≡ F ++ (f a ∷ (D ++ (E ++ h a))) =
        ap₂ (λ (s : List A) (z : ℕ). map f s ++ (drop z l ++ each h s)) t (add-one i)
        ∙ ap₂ (λ (s u : List A). s ++ (D ++ u)) (map-append f (take i l) (a ∷ [])) (each_append h (take i l) (a ∷ []) ∙ ap (λ (s : List A). E ++ s) (append-nil (h a)))
        ∙ append_assoc F (f a ∷ []) (D ++ (E ++ h a)) in
        left ∙ sym right

  -- it only grows
  passed_long : (i : ℕ) (l : List A) → i ≤ length l → length (passed i l) ≤ length (map f l ++ each h l)
  unfolding passed
  passed_long i l b =
      let e : length (each h l) ≡ length (each h (take i l)) + length (each h (drop i l)) =
      ap (λ (s : List A). length (each h s)) (sym (take-append-drop i l)) ∙ ap length (each_append h (take i l) (drop i l)) ∙ length-append (each h (take i l)) (each h (drop i l)) in
      omega (
        arith,
        length-append (map f (take i l)) (drop i l ++ each h (take i l)),
        length-append (drop i l) (each h (take i l)),
        length-append (map f l) (each h l),
        front_long i l b,
        length-drop i l,
        length-map l f,
      )

-- at the head of the loop: the first i edges have stayed, their copies stand behind the edges, and the rest is as it was
pub record Passing (K : Kind) (v before k n count p e room : ℕ) (verts groups : List ℕ) (points : List Float) (ends₀ ends : List ℕ) (lengths₀ lengths : List Float) (rows i : ℕ) : Type 0 where
  pub edges :
      (O : Opening) (M : Mesh) → OpeningIn O M v before k n count p verts groups points
      → edges_at rows ends lengths ≡ passed (stayed K M O) (doubled K M O) i (edges_at e ends₀ lengths₀)
  pub ahead : (j : ℕ) → i ≤ j → j < e → row_at ends lengths j ≡ row_at ends₀ lengths₀ j
  pub inside : i ≤ e
  pub least : e ≤ rows
  pub most : rows ≤ room
  pub ends_long : length ends ≡ length ends₀
  pub lengths_long : length lengths ≡ length lengths₀

module _ (K : Kind) (v before k n count p e room : ℕ) (verts groups : List ℕ) (points : List Float) (ends₀ : List ℕ) (lengths₀ : List Float) where
  pub passing_start : e ≤ room → Passing K v before k n count p e room verts groups points ends₀ ends₀ lengths₀ lengths₀ e 0
  passing_start h =
      record {
        edges = λ O M I. passed_start (stayed K M O) (doubled K M O) (edges_at e ends₀ lengths₀);
        ahead = λ j a b. refl;
        inside = omega arith;
        least = omega arith;
        most = h;
        ends_long = refl;
        lengths_long = refl;
      }

  module _ (ends : List ℕ) (lengths : List Float) (rows i : ℕ) (P : Passing K v before k n count p e room verts groups points ends₀ ends lengths₀ lengths rows i) where
    -- after all edges
    pub passing_done : e ≤ i → EdgesGrown K v before k n count p e room verts groups points ends₀ ends lengths₀ lengths (Some rows)
    unfolding other_edges
    passing_done h =
        let in_all = P.inside in
        let all : i ≡ length (edges_at e ends₀ lengths₀) = omega (arith, edges_many e ends₀ lengths₀) in
        record {
          edges =
              λ O M I.
              grown_all rows room _ (λ q. edges_at q ends lengths) (edges_many rows ends lengths) P.most
              (P.edges O M I
              ∙ ap (λ (z : ℕ). passed (stayed K M O) (doubled K M O) z (edges_at e ends₀ lengths₀)) all
              ∙ passed_end (stayed K M O) (doubled K M O) (edges_at e ends₀ lengths₀));
        }

    module _ (b : i < e) (r : Option ℕ) (ends' : List ℕ) (lengths' : List Float) (S : EdgeSettled K i v before k n count p rows room verts groups points ends ends' lengths lengths' r) where
      -- what one more edge makes of the list
      more : (O : Opening) (M : Mesh) → OpeningIn O M v before k n count p verts groups points
          → set (edges_at rows ends lengths) i (stayed K M O (row_at ends lengths i)) ++ doubled K M O (row_at ends lengths i)
          ≡ passed (stayed K M O) (doubled K M O) (i + 1) (edges_at e ends₀ lengths₀)
      more O M I =
          let E = edges_at e ends₀ lengths₀ in
          let row : row_at ends lengths i ≡ get_or E i blank_edge = P.ahead i (omega arith) b ∙ sym (edges_get e ends₀ lengths₀ i b) in
          ap₂ (λ (s : List Edge) (z : Edge). set s i (stayed K M O z) ++ doubled K M O z) (P.edges O M I) row
          ∙ passed_step (stayed K M O) (doubled K M O) E i blank_edge (omega (arith, edges_many e ends₀ lengths₀))

      -- a copy has no room
      pub passing_lacks : r ≡ None → EdgesGrown K v before k n count p e room verts groups points ends₀ ends' lengths₀ lengths' None
      unfolding other_edges
      passing_lacks q =
          record {
            edges =
                λ O M I.
                let E = edges_at e ends₀ lengths₀ in
                let lacks = subst (λ (z : Option ℕ). GrownTo z room (set (edges_at rows ends lengths) i (stayed K M O (row_at ends lengths i)) ++ doubled K M O (row_at ends lengths i)) (λ m. edges_at m ends' lengths')) q (S.settled O M I) in
                let low = leb-false _ room lacks in
                let is = ap length (more O M I) in
                lt-leb (length (map (stayed K M O) E ++ each (doubled K M O) E)) room
                (omega (arith, low, is, passed_long (stayed K M O) (doubled K M O) (i + 1) E (omega (arith, edges_many e ends₀ lengths₀))));
          }

      -- the copies had room
      pub passing_step : (m : ℕ) → r ≡ Some m → length ends' ≡ length ends → length lengths' ≡ length lengths → Passing K v before k n count p e room verts groups points ends₀ ends' lengths₀ lengths' m (i + 1)
      passing_step m q le ll =
          let between = subst (Between rows room) q S.between in
          let low = P.least in
          record {
            edges =
                λ O M I.
                (subst (λ (z : Option ℕ). GrownTo z room (set (edges_at rows ends lengths) i (stayed K M O (row_at ends lengths i)) ++ doubled K M O (row_at ends lengths i)) (λ j. edges_at j ends' lengths')) q (S.settled O M I)).2
                ∙ more O M I;
            ahead = λ j a c. S.others j (omega arith) (λ z. omega arith) ∙ P.ahead j (omega arith) c;
            inside = omega arith;
            least = omega (arith, between.0);
            most = between.1;
            ends_long = le ∙ P.ends_long;
            lengths_long = ll ∙ P.lengths_long;
          }

-- ---- edges that are passed by

-- an edge that does not name v is no other edge
not_second : (s t : Bool) → t ≡ false → not s && t ≡ false
not_second true t e = refl
not_second false t e = e

unnamed_none : (K : Kind) (v i : ℕ) (ends : List ℕ) (lengths : List Float) → stands v (get_or ends i 0 ∷ get_or ends (length ends / 4 + i) 0 ∷ []) ≡ false
    → not (element? K (row_at ends lengths i)) && stands v (ends_of (row_at ends lengths i)) ≡ false
unnamed_none K v i ends lengths h =
    not_second (element? K (row_at ends lengths i)) (stands v (ends_of (row_at ends lengths i)))
    (ap₂ (λ (a b : ℕ). stands v (a ∷ b ∷ [])) (col_0 0 (length ends / 4) ends i) (col_1 0 (length ends / 4) ends i) ∙ h)

module _ {K : Kind} {v before k n count p e room : ℕ} {verts groups : List ℕ} {points : List Float} {ends₀ : List ℕ} {lengths₀ : List Float} (wide : room ≤ length ends₀ / 4) {ends : List ℕ} {lengths : List Float} {rows i : ℕ}
    (P : Passing K v before k n count p e room verts groups points ends₀ ends lengths₀ lengths rows i) where
  -- d of them
  passing_by : (d : ℕ) → i + d ≤ e → ((j : ℕ) → i ≤ j → j < i + d → stands v (get_or ends j 0 ∷ get_or ends (length ends / 4 + j) 0 ∷ []) ≡ false)
      → Passing K v before k n count p e room verts groups points ends₀ ends lengths₀ lengths rows (i + d)
  passing_by zero l h =
      let z : i ≡ i + zero = omega arith in
      subst (λ (j : ℕ). Passing K v before k n count p e room verts groups points ends₀ ends lengths₀ lengths rows j) z P
  passing_by (suc d) l h =
      let Q = passing_by d (omega arith) (λ j a b. h j a (omega arith)) in
      let z : i + d + 1 ≡ i + suc d = omega arith in
      let least = P.least in
      let long = P.ends_long in
      subst (λ (j : ℕ). Passing K v before k n count p e room verts groups points ends₀ ends lengths₀ lengths rows j) z
      (passing_step K v before k n count p e room verts groups points ends₀ lengths₀ ends lengths rows (i + d) Q (omega arith) (Some rows) ends lengths
      (settled_none K (i + d) v before k n count p rows room verts groups points ends lengths (omega arith) P.most (omega arith) (unnamed_none K v (i + d) ends lengths (h (i + d) (omega arith) (omega arith))))
      rows refl refl refl)

  -- all up to the next that does
  pub passing_next : {r : ℕ} → NextNamed v i e ends r → Passing K v before k n count p e room verts groups points ends₀ ends lengths₀ lengths rows r
  passing_next {r} N =
      let a = N.onward in
      let b = N.within in
      let z : i + (r - i) ≡ r = omega arith in
      subst (λ (j : ℕ). Passing K v before k n count p e room verts groups points ends₀ ends lengths₀ lengths rows j) z (passing_by (r - i) (omega arith) (λ j l m. N.unnamed j l (omega arith)))

-- a row that is as it was names what it named
pub ends_ahead : (K : Kind) (p : ℕ) (e e₀ : Edge) → e ≡ e₀ → (element? K e₀ ≡ false → (e₀.a < p) × (e₀.b < p)) → element? K e ≡ false → (e.a < p) × (e.b < p)
ends_ahead K p e e₀ q h = subst (λ (z : Edge). element? K z ≡ false → (z.a < p) × (z.b < p)) (sym q) h
