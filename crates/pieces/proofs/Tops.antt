-- Laws of tops, the places of a parent table that are their own parents: how their count grows place by place, and that they stand for classes. Assumes nothing.
use mathlib.Core.Path.{◌≡◌, refl, sym, ◌∙◌, ap}
use mathlib.Core.Bool.{Bool, true, false}
use mathlib.Core.List.{List, [], ◌∷◌}
use Prim.Native.Nat.{ℕ, ◌+◌, ◌<◌}
use native.Mathlib.Omega.{arith}
use borrow.Author.Tests.{eq-eqb, ne_eqb, eqb-true}
use lib.Dec.{eqb}
use lib.ListN.{length, get_or, length-append}
use Rattle.lists.specs.Lists.{pick, stands, sift, tab, up_to}
use Rattle.lists.specs.Chain.{Chain}
use Rattle.lists.specs.Labels.{Lowest}
use Rattle.lists.proofs.Chains.{chain_to}
use Rattle.lists.proofs.Labelled.{lowest_same, lowest_down, lowest_flat}
use Rattle.lists.proofs.Sifts.{and_true, true_and, sift_stands, stands_get, stands_made, up_to_stands, up_to_below}
use Rattle.lists.proofs.Steps.{sift_step}
use Rattle.fan.specs.Fan.{Distinct}
use Rattle.piece_classes.specs.Classes.{Classes}
use Rattle.pieces.specs.Sides.{tops}
use Rattle.piece_classes.proofs.Distinct.{once_same}
use Rattle.piece_classes.proofs.Counts.{up_to_once}
use Rattle.piece_classes.proofs.Pieces.{sift_differ}

-- ---- tops among the first places

-- those of the first i places
unfoldable pub tops_below : List ℕ → ℕ → ℕ
tops_below p i = length (sift (λ x. eqb (get_or p x 0) x) (up_to i))

module _ (p : List ℕ) where
  pub tops_start : tops_below p 0 ≡ 0
  unfolding tops_below up_to tab sift
  tops_start = refl

  tops_by : (i : ℕ) (t : Bool) → eqb (get_or p i 0) i ≡ t → tops_below p (i + 1) ≡ tops_below p i + length (pick t (i ∷ []) [])
  unfolding tops_below up_to
  tops_by i t e = ap (λ (s : List ℕ). length s) (sift_step (λ x. eqb (get_or p x 0) x) (λ x. x) i) ∙ rw (length-append, e)

  pub tops_yes : (i : ℕ) → get_or p i 0 ≡ i → tops_below p (i + 1) ≡ tops_below p i + 1
  tops_yes i e = tops_by i true (eq-eqb _ _ e)

  pub tops_no : (i : ℕ) → (get_or p i 0 ≡ i → ⊥) → tops_below p (i + 1) ≡ tops_below p i
  tops_no i e = let h = tops_by i false (ne_eqb _ _ e) in omega arith

  pub tops_all : tops_below p (length p) ≡ length (tops p)
  unfolding tops_below tops
  tops_all = refl

-- ---- tops of a flat table

-- they stand for the classes
module _ {R : ℕ → ℕ → Type 0} {n : ℕ} {p : List ℕ} (T : Lowest R n p) where
  top_is : (x : ℕ) → stands x (tops p) ≡ true → (get_or p x 0 ≡ x) × (x < n)
  unfolding tops
  top_is x t =
      let w = and_true (eqb (get_or p x 0) x) (stands x (up_to (length p))) (sym (sift_stands (λ i. eqb (get_or p i 0) i) x (up_to (length p))) ∙ t) in
      (eqb-true _ _ w.0, (let l = up_to_below (length p) x w.1 in omega (arith, T.every)))

  is_top : (x : ℕ) → get_or p x 0 ≡ x → x < n → stands x (tops p) ≡ true
  unfolding tops
  is_top x e l = sift_stands (λ i. eqb (get_or p i 0) i) x (up_to (length p)) ∙ true_and (eq-eqb _ _ e) (up_to_stands (length p) x (omega (arith, T.every)))

  tops_differ : Distinct (tops p)
  unfolding tops
  tops_differ = sift_differ (λ i. eqb (get_or p i 0) i) (up_to (length p)) (up_to_once (length p))

  pub tops_stand : Classes R n (tops p)
  tops_stand =
      let top : (a : ℕ) → a < length (tops p) → (get_or p (get_or (tops p) a 0) 0 ≡ get_or (tops p) a 0) × (get_or (tops p) a 0 < n) =
      λ a l. top_is (get_or (tops p) a 0) (stands_made (get_or (tops p) a 0) (tops p) a l refl) in
      record {
        within = λ a l. (top a l).1;
        apart = λ a b l m c.
            once_same (tops p) tops_differ a b l m
            (sym (top a l).0 ∙ lowest_same T (get_or (tops p) a 0) (get_or (tops p) b 0) (top a l).1 (top b m).1 c ∙ (top b m).0);
        every = λ i l.
            let d = lowest_down T i l in
            let w = stands_get (get_or p i 0) (tops p) (is_top (get_or p i 0) (lowest_flat T i l) (omega arith)) in
            (w.0, (w.1.0, chain_to (sym w.1.1) (T.chain i l)));
      }
