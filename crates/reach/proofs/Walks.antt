-- The walk: breadth first from the marked rows. At its end the marked rows are those with the label of a row that was marked first. Assumes nothing.
use mathlib.Core.Path.{◌≡◌, refl, sym, ◌∙◌, ap}
use mathlib.Core.Bool.{Bool, true, false, ◌||◌}
use mathlib.Core.Logic.{⊎_elim}
use mathlib.Core.List.{List, map}
use Prim.Native.Nat.{ℕ, ◌+◌, ◌<◌, ◌≤◌, zero-le}
use native.Mathlib.Omega.{arith}
use native.Mathlib.Nat.{not-suc-le-zero}
use native.Mathlib.Decide.{ℕ_discrete, dec_le}
use lib.ListN.{length, get_or, length-map}
use Rattle.lists.specs.Lists.{stands, sift, up_to}
use Rattle.lists.specs.Chain.{Chain, stay, ahead, back}
use Rattle.lists.specs.Labels.{Joins, labelled}
use Rattle.lists.proofs.Chains.{chain_trans, chain_keeps, chain_to}
use Rattle.lists.proofs.Labelled.{labelled_joined}
use Rattle.lists.proofs.Stores.{map_at}
use Rattle.lists.proofs.Sifts.{stands_get, stands_made, sift_stands, up_to_stands, up_to_below, and_true, true_and}
use Rattle.reach.specs.Walk.{seed_labels, reach_from, marked, Queued, Spread, Walk}
use Rattle.reach.proofs.Tallies.{both, tally_ext, tally_mono}
use Rattle.lists.proofs.Truths.{or_cases, or_left}

-- ---- labels of the rows that pass

module _ (p : ℕ → Bool) (n : ℕ) (ls : List ℕ) (x : ℕ) where
  -- x is the label of a row that passes
  pub seed_get : stands x (seed_labels p n ls) ≡ true → (i : ℕ) × ((i < n) × ((p i ≡ true) × (get_or ls i 0 ≡ x)))
  unfolding seed_labels
  seed_get e =
      let w = stands_get x (map (λ j. get_or ls j 0) (sift p (up_to n))) e in
      let b : w.0 < length (sift p (up_to n)) = omega (arith, length-map (sift p (up_to n)) (λ j. get_or ls j 0), w.1.0) in
      let i = get_or (sift p (up_to n)) w.0 0 in
      let s = and_true (p i) (stands i (up_to n)) (sym (sift_stands p i (up_to n)) ∙ stands_made i (sift p (up_to n)) w.0 b refl) in
      (i, (up_to_below n i s.1, (s.0, sym (map_at (λ j. get_or ls j 0) (sift p (up_to n)) w.0 0 0 b) ∙ w.1.1)))

  pub seed_made : (i : ℕ) → i < n → p i ≡ true → get_or ls i 0 ≡ x → stands x (seed_labels p n ls) ≡ true
  unfolding seed_labels
  seed_made i l e f =
      let w = stands_get i (sift p (up_to n)) (sift_stands p i (up_to n) ∙ true_and e (up_to_stands n i l)) in
      stands_made x (map (λ j. get_or ls j 0) (sift p (up_to n))) w.0 (omega (arith, length-map (sift p (up_to n)) (λ j. get_or ls j 0), w.1.0))
      (map_at (λ j. get_or ls j 0) (sift p (up_to n)) w.0 0 0 w.1.0 ∙ ap (λ (m : ℕ). get_or ls m 0) w.1.1 ∙ f)

-- tests that agree below n reach the same
pub reach_ext : (p q : ℕ → Bool) (n : ℕ) (ls : List ℕ) → ((j : ℕ) → j < n → p j ≡ q j) → reach_from p n ls ≡ reach_from q n ls
unfolding reach_from
reach_ext p q n ls h =
    tally_ext (λ j. stands (get_or ls j 0) (seed_labels p n ls)) (λ j. stands (get_or ls j 0) (seed_labels q n ls)) n
    (λ j l. both _ _
    (λ e. let w = seed_get p n ls (get_or ls j 0) e in seed_made q n ls (get_or ls j 0) w.0 w.1.0 (sym (h w.0 w.1.0) ∙ w.1.1.0) w.1.1.1)
    (λ e. let w = seed_get q n ls (get_or ls j 0) e in seed_made p n ls (get_or ls j 0) w.0 w.1.0 (h w.0 w.1.0 ∙ w.1.1.0) w.1.1.1))

-- ---- the walk

or_right : (s t : Bool) → t ≡ true → s || t ≡ true
or_right true t e = refl
or_right false t e = e

module _ (near : ℕ → ℕ → Bool) (n : ℕ) (either : (i j : ℕ) → near i j ≡ near j i) where
  -- rows that touch are joined
  touch_chain : (i j : ℕ) → i < n → j < n → near i j ≡ true → Chain (Joins near n) i j
  touch_chain i j li lj e =
      elim (ℕ_discrete i j) [
        | yes d ↦ chain_to d stay
        | no d ↦ by (dec_le i j) d
      ]
    where
      by : Dec (i ≤ j) → (i ≡ j → ⊥) → Chain (Joins near n) i j
      by (yes h) d = let k : Joins near n i j = record { order = omega arith; within = lj; joined = e } in ahead k stay
      by (no h) d = let k : Joins near n j i = record { order = omega arith; within = li; joined = either j i ∙ e } in back k stay

  pub walk_start : (seen queue : List ℕ) (tail : ℕ) → Queued n seen queue tail → Walk near n seen seen queue 0 tail
  walk_start seen queue tail Q =
      record {
        queued = Q;
        below = zero-le;
        kept = λ j l e. e;
        joined = λ j l e. (j, (l, (e, stay)));
        closed = λ a h. absurd (not-suc-le-zero h);
      }

  module _ {first seen queue : List ℕ} {head tail : ℕ} (W : Walk near n first seen queue head tail) where
    pub walk_step : {seen' queue' : List ℕ} {end : ℕ} → head < tail → Spread n (near (get_or queue head 0)) seen queue tail seen' queue' end
        → Walk near n first seen' queue' (head + 1) end
    walk_step {seen'} {queue'} {end} h S =
        record {
          queued = S.queued;
          below = omega (arith, S.more);
          kept = λ j l e. still j l (W.kept j l e);
          joined = λ j l e. ⊎_elim (λ d. W.joined j l d) (λ d. further j l d) (or_cases (marked seen j) (near (get_or queue head 0) j) (sym (S.marks j l) ∙ e));
          closed = λ a b j l e.
              elim (ℕ_discrete a head) [
                | yes d ↦
                    let f : get_or queue' a 0 ≡ get_or queue head 0 = ap (λ (m : ℕ). get_or queue' m 0) d ∙ S.kept head h in
                    S.marks j l ∙ or_right (marked seen j) (near (get_or queue head 0) j) (sym (ap (λ (m : ℕ). near m j) f) ∙ e)
                | no d ↦
                    let f : get_or queue' a 0 ≡ get_or queue a 0 = S.kept a (omega (arith, W.below)) in
                    still j l (W.closed a (omega arith) j l (sym (ap (λ (m : ℕ). near m j) f) ∙ e))
              ];
        }
      where
        still : (j : ℕ) → j < n → marked seen j ≡ true → marked seen' j ≡ true
        still j l e = S.marks j l ∙ or_left (marked seen j) (near (get_or queue head 0) j) e

        further : (j : ℕ) → j < n → near (get_or queue head 0) j ≡ true → (i : ℕ) × ((i < n) × ((marked first i ≡ true) × Chain (Joins near n) i j))
        further j l d =
            let q = W.queued.within head h in
            let w = W.joined (get_or queue head 0) q.0 q.1 in
            (w.0, (w.1.0, (w.1.1.0, chain_trans w.1.1.1 (touch_chain (get_or queue head 0) j q.0 l d))))

    -- what is marked has a label of the first
    labelled_in : (j : ℕ) → j < n → marked seen j ≡ true → stands (get_or (labelled near n) j 0) (seed_labels (marked first) n (labelled near n)) ≡ true
    labelled_in j l e =
        let w = W.joined j l e in
        seed_made (marked first) n (labelled near n) _ w.0 w.1.0 w.1.1.0 ((labelled_joined near n w.0 j w.1.0 l).1 w.1.1.1)

    -- so many rows at least are reached
    pub walk_least : tail ≤ reach_from (marked first) n (labelled near n)
    unfolding reach_from
    walk_least =
        let h = tally_mono (marked seen) (λ j. stands (get_or (labelled near n) j 0) (seed_labels (marked first) n (labelled near n))) n labelled_in in
        omega (arith, W.queued.counted)

    module _ (over : tail ≤ head) where
      -- the neighbours of a marked row are marked
      spreads : (i j : ℕ) → i < n → j < n → near i j ≡ true → marked seen i ≡ true → marked seen j ≡ true
      spreads i j li lj e m =
          let w = W.queued.listed i li m in
          W.closed w.0 (omega (arith, w.1.0)) j lj (ap (λ (a : ℕ). near a j) w.1.1 ∙ e)

      along : (i j : ℕ) → Joins near n i j → marked seen i ≡ marked seen j
      along i j k =
          let o = k.order in
          let u = k.within in
          both _ _ (spreads i j (omega arith) u k.joined) (spreads j i u (omega arith) (either j i ∙ k.joined))

      in_labelled : (j : ℕ) → j < n → stands (get_or (labelled near n) j 0) (seed_labels (marked first) n (labelled near n)) ≡ true → marked seen j ≡ true
      in_labelled j l e =
          let w = seed_get (marked first) n (labelled near n) _ e in
          let c = (labelled_joined near n w.0 j w.1.0 l).0 w.1.1.1 in
          sym (chain_keeps (marked seen) along c) ∙ W.kept w.0 w.1.0 w.1.1.0

      -- at the end the marked rows are all that are reached
      pub walk_done : tail ≡ reach_from (marked first) n (labelled near n)
      unfolding reach_from
      walk_done =
          W.queued.counted
          ∙ tally_ext (marked seen) (λ j. stands (get_or (labelled near n) j 0) (seed_labels (marked first) n (labelled near n))) n
          (λ j l. both _ _ (labelled_in j l) (in_labelled j l))
