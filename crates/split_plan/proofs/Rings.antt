-- Laws of rings: which rows of the tables give the groups of `ring O x`. Assumes nothing.
use mathlib.Core.Path.{◌≡◌, refl, sym, ◌∙◌, ap, subst}
use mathlib.Core.Logic.{◌⊎◌, inl, inr, ⊎_elim}
use mathlib.Core.Bool.{Bool, true, false, not, ◌&&◌, false≢true}
use mathlib.Core.List.{List, map}
use Prim.Native.Nat.{ℕ, ◌+◌, ◌*◌, ◌<◌, ◌≤◌, zero-le}
use native.Mathlib.Omega.{arith}
use native.Mathlib.Nat.{le_trans}
use borrow.Author.Count.{below_more}
use borrow.Author.Tests.{eq-eqb, eqb-true, le-leb, leb-true}
use lib.Dec.{eqb, leb}
use lib.ListN.{get_or, take, drop}
use Rattle.lists.specs.Lists.{stands, any, sift, empty, head_or, rest, up_to, rising, disjoint}
use Rattle.lists.proofs.Sifts.{and_true, true_and, sift_ext, any_get, any_made, up_to_stands, rising_stands}
use Rattle.fan.proofs.Shared.{row_end}
use Rattle.model.specs.Split.{Part, Opening, ring, parted}
use Rattle.split_plan.specs.Opened.{part_at, blank_part, Ringed, RingRoom, ring_from}
use Rattle.lists.proofs.Walks.{not_so, sift_sift, sift_every, least_none, least_some, head_passes, behind_up_to, not_empty, some_stands, any_stands, any_one, stands_made_of}

-- the corners of row i
abbrev pub row_of : ℕ → List ℕ → ℕ → List ℕ
row_of k verts i = take k (drop (i * k) verts)

-- a row lies within its table
pub row_fits : {n k lv lg : ℕ} → RingRoom n k lv lg → (i : ℕ) → i < n → i * k + k ≤ lv
row_fits {n} {k} R i l = le_trans (row_end i n k l) R.verts

-- row i has group g and holds x
pub record Holds (x g k : ℕ) (verts groups : List ℕ) (i : ℕ) : Type 0 where
  pub of : get_or groups i 0 ≡ g
  pub holds : stands x (row_of k verts i) ≡ true

-- the groups of the parts that hold x
groups_at : Opening → ℕ → List ℕ
groups_at O x = map (λ (p : Part). p.group) (sift (λ (p : Part). stands x p.corners) O.fan)

module _ {k n : ℕ} {verts groups : List ℕ} (O : Opening) (R : Ringed k O n verts groups) (x : ℕ) where
  -- a row that holds x, as a test of its part
  part_test : (g i : ℕ) → i < n → Holds x g k verts groups i → stands x (part_at O i).corners && eqb (part_at O i).group g ≡ true
  part_test g i l w =
      true_and (ap (stands x) (R.corners_are i l) ∙ w.holds) (eq-eqb (part_at O i).group g (R.group_is i l ∙ w.of))

  -- such a row gives its group
  group_made : (g i : ℕ) → i < n → Holds x g k verts groups i → stands g (groups_at O x) ≡ true
  unfolding groups_at
  group_made g i l w =
      let s = R.size in
      stands_made_of (λ (p : Part). p.group) (λ (p : Part). stands x p.corners) g O.fan
      ∙ any_made (λ (p : Part). stands x p.corners && eqb p.group g) O.fan i blank_part (omega arith) (part_test g i l w)

  -- each group comes from such a row
  group_from : (g : ℕ) → stands g (groups_at O x) ≡ true → (i : ℕ) × ((i < n) × Holds x g k verts groups i)
  unfolding groups_at
  group_from g e =
      let s = R.size in
      let w =
      any_get (λ (p : Part). stands x p.corners && eqb p.group g) O.fan blank_part
      (sym (stands_made_of (λ (p : Part). p.group) (λ (p : Part). stands x p.corners) g O.fan) ∙ e) in
      let l : w.0 < n = omega (arith, w.1.0) in
      let b = and_true (stands x (part_at O w.0).corners) (eqb (part_at O w.0).group g) w.1.1 in
      (w.0, (l, record { of = sym (R.group_is w.0 l) ∙ eqb-true (part_at O w.0).group g b.1; holds = sym (ap (stands x) (R.corners_are w.0 l)) ∙ b.0 }))

  -- a row that holds x gives its group, and each group comes from such a row
  pub ring_made : (g i : ℕ) → i < n → Holds x g k verts groups i → stands g (ring O x) ≡ true
  unfolding ring groups_at
  ring_made g i l w =
      let b = R.below i l in
      let q = w.of in
      rising_stands O.count (groups_at O x) g ∙ true_and (group_made g i l w) (up_to_stands O.count g (omega arith))

  -- each group of the ring comes from a row that holds x
  pub ring_from_lem : (g : ℕ) → stands g (ring O x) ≡ true → (i : ℕ) × ((i < n) × Holds x g k verts groups i)
  unfolding ring groups_at
  ring_from_lem g e =
      group_from g (and_true (stands g (groups_at O x)) (stands g (up_to O.count)) (sym (rising_stands O.count (groups_at O x) g) ∙ e)).0

  -- no row has group g and holds x
  pub ring_none : (g : ℕ) → ((i : ℕ) → i < n → Holds x g k verts groups i → ⊥) → false ≡ stands g (ring O x)
  ring_none g h = not_so (stands g (ring O x)) (λ e. let w = ring_from_lem g e in h w.0 w.1.0 w.1.1)

  -- some row holds x
  pub ring_some : (i : ℕ) → i < n → stands x (row_of k verts i) ≡ true → true ≡ not (empty (ring O x))
  ring_some i l e = sym (not_empty (get_or groups i 0) (ring O x) (ring_made (get_or groups i 0) i l (record { of = refl; holds = e })))

  -- no row holds x
  pub ring_empty : ((i : ℕ) → i < n → stands x (row_of k verts i) ≡ true → ⊥) → false ≡ not (empty (ring O x))
  ring_empty h =
      not_so (not (empty (ring O x))) (λ e. let g = some_stands (ring O x) e in let w = ring_from_lem g.0 g.1 in h w.0 w.1.0 w.1.1.holds)

  -- some group of the ring passes
  pub ring_any : (p : ℕ → Bool) (i : ℕ) → i < n → stands x (row_of k verts i) ≡ true → p (get_or groups i 0) ≡ true → true ≡ any p (ring O x)
  ring_any p i l e h = sym (any_stands p (get_or groups i 0) (ring O x) (ring_made (get_or groups i 0) i l (record { of = refl; holds = e })) h)

  -- no group of the ring passes
  pub ring_not_any : (p : ℕ → Bool) → ((i : ℕ) → i < n → stands x (row_of k verts i) ≡ true → p (get_or groups i 0) ≡ true → ⊥) → false ≡ any p (ring O x)
  ring_not_any p h =
      not_so (any p (ring O x))
      (λ e.
      let g = any_one p (ring O x) e in
      let w = ring_from_lem g.0 g.1.0 in
      h w.0 w.1.0 w.1.1.holds (ap p w.1.1.of ∙ g.1.1))

-- ---- the walk along a ring

-- what a pass over i rows has found: best is the least group from `from` on that holds x, else count
pub record Least (x from count k : ℕ) (verts groups : List ℕ) (i best : ℕ) : Type 0 where
  pub lowest : (j : ℕ) → j < i → from ≤ get_or groups j 0 → stands x (row_of k verts j) ≡ true → best ≤ get_or groups j 0
  pub comes : (best ≡ count) ⊎ ((j : ℕ) × ((j < i) × Holds x best k verts groups j × (from ≤ best) × (best < count)))

-- before the first row
pub least_start : (x from count k : ℕ) (verts groups : List ℕ) → Least x from count k verts groups 0 count
least_start x from count k verts groups = record { lowest = λ j l. absurd (omega arith); comes = inl refl }

module _ {x from count k : ℕ} {verts groups : List ℕ} {i best : ℕ} (P : Least x from count k verts groups i best) where
  -- a row that takes over
  pub least_take : (g : ℕ) → get_or groups i 0 ≡ g → from ≤ g → g < best → best ≤ count → stands x (row_of k verts i) ≡ true → Least x from count k verts groups (i + 1) g
  least_take g e f l c h =
      record {
        lowest =
            below_more (λ (j : ℕ). from ≤ get_or groups j 0 → stands x (row_of k verts j) ≡ true → g ≤ get_or groups j 0) i
            (λ j m a b. omega (arith, P.lowest j m a b))
            (λ a b. omega arith);
        comes = inr (i, (omega arith, record { of = e; holds = h }, f, omega arith));
      }

  -- a row that doesn't
  pub least_keep : (from ≤ get_or groups i 0 → stands x (row_of k verts i) ≡ true → best ≤ get_or groups i 0) → Least x from count k verts groups (i + 1) best
  least_keep h =
      record {
        lowest = below_more (λ (j : ℕ). from ≤ get_or groups j 0 → stands x (row_of k verts j) ≡ true → best ≤ get_or groups j 0) i P.lowest h;
        comes = ⊎_elim (λ e. inl e) (λ w. inr (w.0, (omega (arith, w.1.0), w.1.1, w.1.2, w.1.3))) P.comes;
      }

  -- best is count at most
  pub least_within : best ≤ count
  least_within = ⊎_elim (λ e. omega arith) (λ w. omega (arith, w.1.3)) P.comes

  -- best is `from` at least
  pub least_onward : from ≤ count → from ≤ best
  least_onward l = ⊎_elim (λ e. omega arith) (λ w. w.1.2) P.comes

-- the test of `ring_from`
abbrev in_ring : Opening → ℕ → ℕ → ℕ → Bool
in_ring O from x g = stands g (groups_at O x) && leb from g

-- the ring from `from` on as one sift
ring_from_is : (O : Opening) (from x : ℕ) → ring_from O from x ≡ sift (in_ring O from x) (up_to O.count)
unfolding ring_from ring rising groups_at
ring_from_is O from x = sift_sift (λ g. leb from g) (λ g. stands g (groups_at O x)) (up_to O.count)

-- the head of the ring from `from` on
pub least_head : {x from k n best : ℕ} {verts groups : List ℕ} (O : Opening) → Ringed k O n verts groups → Least x from O.count k verts groups n best → best ≡ head_or O.count (ring_from O from x)
least_head {x} {from} {k} {n} {best} {verts} {groups} O R P =
    sym (by P.comes) ∙ sym (ap (head_or O.count) (ring_from_is O from x))
  where
    low : (g : ℕ) → g < best → in_ring O from x g ≡ false
    low g l =
        sym
        (not_so (in_ring O from x g)
        (λ e.
        let b = and_true (stands g (groups_at O x)) (leb from g) e in
        let w = group_from O R x g b.0 in
        let f = leb-true from g b.1 in
        let q = w.1.1.of in
        omega (arith, P.lowest w.0 w.1.0 (omega arith) w.1.1.holds)))

    by : (best ≡ O.count) ⊎ ((j : ℕ) × ((j < n) × Holds x best k verts groups j × (from ≤ best) × (best < O.count))) → head_or O.count (sift (in_ring O from x) (up_to O.count)) ≡ best
    by (inl e) = least_none (in_ring O from x) best O.count low e ∙ sym e
    by (inr w) =
        least_some (in_ring O from x) best O.count low w.1.3
        (true_and (group_made O R x best w.0 w.1.0 w.1.1) (le-leb from best w.1.2))

-- the same where count is given
pub least_count : {x from count k n best : ℕ} {verts groups : List ℕ} (O : Opening) → Ringed k O n verts groups → O.count ≡ count → Least x from count k verts groups n best → best ≡ head_or count (ring_from O from x)
least_count {x} {from} {count} {k} {n} {best} {verts} {groups} O R q P =
    subst (λ (m : ℕ). best ≡ head_or m (ring_from O from x)) q (least_head O R (subst (λ (m : ℕ). Least x from m k verts groups n best) (sym q) P))

-- a test from a higher number on asks the lower too
agree : (t : Bool) (a b g : ℕ) → a ≤ b → t && leb b g ≡ (t && leb a g) && leb b g
agree false a b g l = refl
agree true a b g l = by (leb b g) refl
  where
    by : (s : Bool) → leb b g ≡ s → s ≡ leb a g && s
    by true e = sym (true_and (le-leb a g (omega (arith, leb-true b g e))) refl)
    by false e = end (leb a g)
      where
        end : (u : Bool) → false ≡ u && false
        end true = refl
        end false = refl

-- from the head on
pub ring_next : (O : Opening) (from x r : ℕ) → r ≡ head_or O.count (ring_from O from x) → r < O.count → ring_from O (r + 1) x ≡ rest (ring_from O from x)
ring_next O from x r e l =
    let c = O.count in
    let p = in_ring O from x in
    let s = ring_from_is O from x in
    let e' : head_or c (sift p (up_to c)) ≡ r = sym (e ∙ ap (head_or c) s) in
    let f : from ≤ r = leb-true from r (and_true (stands r (groups_at O x)) (leb from r) (head_passes p (up_to c) c r e' (λ q. omega arith))).1 in
    ring_from_is O (r + 1) x ∙ sift_ext (in_ring O (r + 1) x) (λ g. p g && leb (r + 1) g) (up_to c) (λ g. agree (stands g (groups_at O x)) from (r + 1) g (omega arith))
    ∙ behind_up_to p c c r e' ∙ sym (ap (rest {A = ℕ}) s)

-- the ring from 0 on is the ring
pub ring_first : (O : Opening) (x : ℕ) → ring_from O 0 x ≡ ring O x
unfolding ring_from
ring_first O x = sift_every (λ g. leb 0 g) (ring O x) (λ g. le-leb 0 g zero-le)

-- ---- neighbours with no common group

-- three tests: the first fails, the second fails, the third decides
and_first : (a b c : Bool) → a ≡ false → false ≡ a && b && c
and_first true b c e = absurd (false≢true (sym e))
and_first false b c e = refl

and_second : (a b c : Bool) → a ≡ true → b ≡ false → false ≡ a && b && c
and_second true true c d e = absurd (false≢true (sym e))
and_second true false c d e = refl
and_second false b c d e = absurd (false≢true d)

and_third : (a b c : Bool) → a ≡ true → b ≡ true → c ≡ a && b && c
and_third true true c d e = refl
and_third true false c d e = absurd (false≢true e)
and_third false b c d e = absurd (false≢true d)

module _ (O : Opening) (x y : ℕ) where
  -- x is no neighbour
  pub parted_first : (r : Bool) → r ≡ not (empty (ring O x)) → r ≡ false → false ≡ parted O x y
  unfolding parted
  parted_first r q e = and_first (not (empty (ring O x))) (not (empty (ring O y))) (disjoint (ring O x) (ring O y)) (sym q ∙ e)

  -- y is no neighbour
  pub parted_second : (r s : Bool) → r ≡ not (empty (ring O x)) → r ≡ true → s ≡ not (empty (ring O y)) → s ≡ false → false ≡ parted O x y
  unfolding parted
  parted_second r s q e q' e' = and_second (not (empty (ring O x))) (not (empty (ring O y))) (disjoint (ring O x) (ring O y)) (sym q ∙ e) (sym q' ∙ e')

  -- both are: a common group decides
  pub parted_third : (r s t : Bool) → r ≡ not (empty (ring O x)) → r ≡ true → s ≡ not (empty (ring O y)) → s ≡ true → t ≡ any (λ g. stands g (ring O y)) (ring O x) → not t ≡ parted O x y
  unfolding parted disjoint
  parted_third r s t q e q' e' d =
      ap not d ∙ and_third (not (empty (ring O x))) (not (empty (ring O y))) (not (any (λ g. stands g (ring O y)) (ring O x))) (sym q ∙ e) (sym q' ∙ e')
