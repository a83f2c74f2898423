-- The queue of the marked rows: one row more is marked and queued, and the loops that do so. Assumes nothing.
use mathlib.Core.Path.{◌≡◌, refl, sym, ◌∙◌, ap, subst}
use mathlib.Core.Bool.{Bool, true, false, ◌||◌, false≢true}
use mathlib.Core.Logic.{◌⊎◌, inl, inr, ⊎_elim}
use mathlib.Core.List.{List}
use Prim.Native.Nat.{ℕ, ◌+◌, ◌<◌, ◌≤◌, zero-le}
use native.Mathlib.Omega.{arith}
use native.Mathlib.Nat.{not-suc-le-zero}
use native.Mathlib.Decide.{ℕ_discrete}
use borrow.Author.Tests.{eq-eqb, ne_eqb, lt-ltb, le-ltb, ltb-true, ltb-false}
use lib.Dec.{eqb, ltb}
use lib.ListN.{length, get_or, set, length-set}
use Rattle.lists.specs.Lists.{pick}
use Rattle.lists.proofs.Stores.{stored}
use Rattle.reach.specs.Walk.{marked, Queued, Spread, Seeded}
use Rattle.reach.proofs.Tallies.{tally_more, tally_room, tally_none, tally_le}

-- x or no more
pub or_off : (s t : Bool) → t ≡ false → s || t ≡ s
or_off true t e = refl
or_off false t e = e

-- ---- one row more

module _ {n : ℕ} {seen queue : List ℕ} {end : ℕ} (Q : Queued n seen queue end) (j : ℕ) (l : j < n) (new : marked seen j ≡ false) where
  pub queue_end : end < n
  queue_end = let h = tally_room (marked seen) n j l new in omega (arith, Q.counted)

  pub mark_here : marked (set seen j 1) j ≡ true
  mark_here = ⊎_elim (λ y. eq-eqb _ _ y.1) (λ y. absurd (y.0 refl)) (stored seen j 1 j (omega (arith, Q.seen_room)))

  pub mark_other : (a : ℕ) → (a ≡ j → ⊥) → marked (set seen j 1) a ≡ marked seen a
  mark_other a ne = ⊎_elim (λ y. absurd (ne y.0)) (λ y. ap (λ (x : ℕ). eqb x 1) y.1) (stored seen j 1 a (omega (arith, Q.seen_room)))

  -- what was marked still is
  mark_kept : (a : ℕ) → marked seen a ≡ true → marked (set seen j 1) a ≡ true
  mark_kept a e = elim (ℕ_discrete a j) [ yes d ↦ ap (marked (set seen j 1)) d ∙ mark_here | no d ↦ mark_other a d ∙ e ]

  pub queue_kept : (a : ℕ) → a < end → get_or (set queue end j) a 0 ≡ get_or queue a 0
  queue_kept a h = ⊎_elim (λ y. let e = y.0 in absurd (omega arith)) (λ y. y.1) (stored queue end j a (let m = queue_end in omega (arith, Q.queue_room)))

  queue_new : get_or (set queue end j) end 0 ≡ j
  queue_new = ⊎_elim (λ y. y.1) (λ y. absurd (y.0 refl)) (stored queue end j end (let m = queue_end in omega (arith, Q.queue_room)))

  pub queued_more : Queued n (set seen j 1) (set queue end j) (end + 1)
  queued_more =
      record {
        seen_room = let h = Q.seen_room in simp length-set (omega arith);
        queue_room = let h = Q.queue_room in simp length-set (omega arith);
        counted = let h = tally_more (marked seen) (marked (set seen j 1)) n j l new mark_here (λ a m ne. mark_other a ne) in omega (arith, Q.counted);
        within = λ a h.
            elim (ℕ_discrete a end) [
              | yes e ↦
                  let f : get_or (set queue end j) a 0 ≡ j = ap (λ (m : ℕ). get_or (set queue end j) m 0) e ∙ queue_new in
                  (omega arith, ap (marked (set seen j 1)) f ∙ mark_here)
              | no ne ↦
                  let b : a < end = omega arith in
                  let f = queue_kept a b in
                  let w = Q.within a b in
                  (omega (arith, w.0), ap (marked (set seen j 1)) f ∙ mark_kept (get_or queue a 0) w.1)
            ];
        listed = λ a h m.
            elim (ℕ_discrete a j) [
              | yes e ↦ (end, (omega arith, queue_new ∙ sym e))
              | no ne ↦
                  let w = Q.listed a h (sym (mark_other a ne) ∙ m) in
                  (w.0, (let b = w.1.0 in omega arith, queue_kept w.0 w.1.0 ∙ w.1.1))
            ];
      }

-- no more rows are queued than there are
pub queued_le : {n : ℕ} {seen queue : List ℕ} {tail : ℕ} → Queued n seen queue tail → tail ≤ n
queued_le {n} {seen} Q = let h = tally_le (marked seen) n in omega (arith, Q.counted)

-- ---- from an empty queue

pub queued_none : (n : ℕ) (seen queue : List ℕ) → n ≤ length seen → n ≤ length queue → ((j : ℕ) → j < n → get_or seen j 0 ≡ 0) → Queued n seen queue 0
queued_none n seen queue s q h =
    record {
      seen_room = s;
      queue_room = q;
      counted = sym (tally_none (marked seen) n off);
      within = λ a l. absurd (not-suc-le-zero l);
      listed = λ j l e. absurd (false≢true (sym (off j l) ∙ e));
    }
  where
    off : (j : ℕ) → j < n → marked seen j ≡ false
    off j l = ne_eqb (get_or seen j 0) 1 (λ e. let z = h j l in omega arith)

-- ---- the test of the rows below i alone

unfoldable pub upto : (ℕ → Bool) → ℕ → ℕ → Bool
upto p i j = pick (ltb j i) (p j) false

pub upto_in : (p : ℕ → Bool) (i j : ℕ) → j < i → upto p i j ≡ p j
unfolding upto
upto_in p i j l = rw (lt-ltb j i l)

pub upto_out : (p : ℕ → Bool) (i j : ℕ) → i ≤ j → upto p i j ≡ false
unfolding upto
upto_out p i j l = rw (le-ltb j i l)

-- one row further
pub upto_more : (p : ℕ → Bool) (i j : ℕ) → (j ≡ i → ⊥) → upto p (i + 1) j ≡ upto p i j
upto_more p i j ne =
    elim (ℕ_discrete j i) [
      | yes e ↦ absurd (ne e)
      | no d ↦ by (ltb j i) refl
    ]
  where
    by : (t : Bool) → ltb j i ≡ t → upto p (i + 1) j ≡ upto p i j
    by true e = upto_in p (i + 1) j (omega (arith, ltb-true j i e)) ∙ sym (upto_in p i j (ltb-true j i e))
    by false e = upto_out p (i + 1) j (omega (arith, ltb-false j i e)) ∙ sym (upto_out p i j (ltb-false j i e))

-- ---- the loop that spreads

module _ (p : ℕ → Bool) {n : ℕ} {seen₀ queue₀ : List ℕ} {tail : ℕ} where
  pub spread_start : Queued n seen₀ queue₀ tail → Spread n (upto p 0) seen₀ queue₀ tail seen₀ queue₀ tail
  spread_start Q =
      record { queued = Q; marks = λ j l. sym (or_off _ _ (upto_out p 0 j zero-le)); kept = λ a h. refl; more = omega arith }

  module _ {seen queue : List ℕ} {end i : ℕ} (S : Spread n (upto p i) seen₀ queue₀ tail seen queue end) (l : i < n) where
    before : marked seen i ≡ marked seen₀ i
    before = S.marks i l ∙ or_off _ _ (upto_out p i i (omega arith))

    here : upto p (i + 1) i ≡ p i
    here = upto_in p (i + 1) i (omega arith)

    -- a row that was not marked at first is not marked before its turn
    pub spread_fresh : get_or seen₀ i 0 ≡ 0 → marked seen i ≡ false
    spread_fresh z = before ∙ ne_eqb (get_or seen₀ i 0) 1 (λ e. omega arith)

    -- the row is marked, or does not pass
    pub spread_skip : (marked seen i ≡ true) ⊎ (p i ≡ false) → Spread n (upto p (i + 1)) seen₀ queue₀ tail seen queue end
    spread_skip w =
        record {
          queued = S.queued;
          marks = λ j m.
              elim (ℕ_discrete j i) [
                | yes e ↦ subst (λ (a : ℕ). marked seen a ≡ marked seen₀ a || upto p (i + 1) a) (sym e) (by w)
                | no ne ↦ S.marks j m ∙ ap (λ (t : Bool). marked seen₀ j || t) (sym (upto_more p i j ne))
              ];
          kept = S.kept;
          more = S.more;
        }
      where
        by : (marked seen i ≡ true) ⊎ (p i ≡ false) → marked seen i ≡ marked seen₀ i || upto p (i + 1) i
        by (inl e) = let f : marked seen₀ i ≡ true = sym before ∙ e in rw (e, f)
        by (inr e) = before ∙ sym (or_off _ _ (here ∙ e))

    pub spread_mark : marked seen i ≡ false → p i ≡ true → Spread n (upto p (i + 1)) seen₀ queue₀ tail (set seen i 1) (set queue end i) (end + 1)
    spread_mark new yes_p =
        record {
          queued = queued_more S.queued i l new;
          marks = λ j m.
              elim (ℕ_discrete j i) [
                | yes e ↦ subst (λ (a : ℕ). marked (set seen i 1) a ≡ marked seen₀ a || upto p (i + 1) a) (sym e) (mark_here S.queued i l new ∙ sym (on (marked seen₀ i) (upto p (i + 1) i) (here ∙ yes_p)))
                | no ne ↦ mark_other S.queued i l new j ne ∙ S.marks j m ∙ ap (λ (t : Bool). marked seen₀ j || t) (sym (upto_more p i j ne))
              ];
          kept = λ a h. queue_kept S.queued i l new a (omega (arith, S.more)) ∙ S.kept a h;
          more = omega (arith, S.more);
        }
      where
        on : (s t : Bool) → t ≡ true → s || t ≡ true
        on true t e = refl
        on false t e = e

  pub spread_done : {seen queue : List ℕ} {end i : ℕ} → Spread n (upto p i) seen₀ queue₀ tail seen queue end → n ≤ i → Spread n p seen₀ queue₀ tail seen queue end
  spread_done {i = i} S h =
      record {
        queued = S.queued;
        marks = λ j l. S.marks j l ∙ ap (λ (t : Bool). marked seen₀ j || t) (upto_in p i j (omega arith));
        kept = S.kept;
        more = S.more;
      }

-- from no mark, the rows that pass are the marked ones
pub seeded : {n : ℕ} {p : ℕ → Bool} {seen₀ queue₀ seen queue : List ℕ} {tail end : ℕ} → ((j : ℕ) → j < n → get_or seen₀ j 0 ≡ 0)
    → Spread n p seen₀ queue₀ tail seen queue end → Seeded n p seen queue end
seeded {p = p} {seen₀ = seen₀} off S =
    record {
      queued = S.queued;
      marks = λ j l. S.marks j l ∙ ap (λ (t : Bool). t || p j) (ne_eqb (get_or seen₀ j 0) 1 (λ e. let z = off j l in omega arith));
    }

-- the same where the lists and the end are equal
pub spread_at : {n : ℕ} {p : ℕ → Bool} {seen₀ queue₀ seen queue seen' queue' : List ℕ} {tail end end' : ℕ} → seen' ≡ seen → queue' ≡ queue → end' ≡ end
    → Spread n p seen₀ queue₀ tail seen queue end → Spread n p seen₀ queue₀ tail seen' queue' end'
spread_at {n} {p} {seen₀} {queue₀} {seen} {queue} {seen'} {queue'} {tail} {end} {end'} a b c S =
    subst (λ (s : List ℕ). Spread n p seen₀ queue₀ tail s queue' end') (sym a)
    (subst (λ (q : List ℕ). Spread n p seen₀ queue₀ tail seen q end') (sym b) (subst (λ (e : ℕ). Spread n p seen₀ queue₀ tail seen queue e) (sym c) S))
