-- The numbers that pass a test, in a list: which comes next, and that none between two of them passes. So a walk over the list passes over all numbers. Assumes nothing.
use Prim.Native.Nat.{ℕ, zero, suc, ◌+◌, ◌≤◌, ◌<◌}
use native.Mathlib.Nat.{not-suc-le-zero, le_of_suc-le-suc}
use native.Mathlib.Omega.{arith}
use native.Mathlib.Decide.{ℕ_discrete}
use mathlib.Core.Path.{◌≡◌, refl, sym, ap, ◌∙◌, subst}
use mathlib.Core.Bool.{Bool, true, false}
use mathlib.Core.List.{List, [], ◌∷◌}
use lib.ListN.{length, get_or, get_or-eq_default}
use lib.Seq.{get_or-take, length-take-le}
use Rattle.lists.specs.Lists.{pick, sift, up_to}
use Rattle.links.specs.Links.{holds, cells_of}
use Rattle.links.specs.Rooms.{CellsListed}
use Rattle.links.proofs.Walked.{from, from_up_to}

-- x is the next number from b on that passes, or the end e: those before it do not
pub record Gap (p : ℕ → Bool) (b e x : ℕ) : Type 0 where
  pub onward : b ≤ x
  pub within : x ≤ e
  pub none : (j : ℕ) → b ≤ j → j < x → p j ≡ false

-- what stands at place q of a list of the numbers that pass: one that does, and behind it comes the next
pub record Stop (p : ℕ → Bool) (l : List ℕ) (e q : ℕ) : Type 0 where
  pub passes : p (get_or l q e) ≡ true
  pub inside : get_or l q e < e
  pub next : Gap p (suc (get_or l q e)) e (get_or l (suc q) e)

module _ (p : ℕ → Bool) where
  first_from : (a m e : ℕ) → a + m ≡ e → Gap p a e (get_or (sift p (from a m)) 0 e)
  unfolding sift
  first_from a zero e s = record { onward = omega arith; within = omega arith; none = λ j x y. absurd (omega arith) }
  first_from a (suc m) e s = by (p a) refl (first_from (suc a) m e (omega arith))
    where
      by : (b : Bool) → p a ≡ b → Gap p (suc a) e (get_or (sift p (from (suc a) m)) 0 e) → Gap p a e (get_or (pick (p a) (a ∷ sift p (from (suc a) m)) (sift p (from (suc a) m))) 0 e)
      by true q G = rw q (record { onward = omega arith; within = omega arith; none = λ j x y. absurd (omega arith) })
      by false q G =
          rw q
          (record {
            onward = omega (arith, G.onward);
            within = G.within;
            none = λ j x y. elim (ℕ_discrete j a) [ yes z ↦ ap p z ∙ q | no z ↦ G.none j (omega (arith, z)) y ];
          })

  stop_from : (a m e q : ℕ) → a + m ≡ e → q < length (sift p (from a m)) → Stop p (sift p (from a m)) e q
  unfolding sift
  stop_from a zero e q s h = absurd (not-suc-le-zero h)
  stop_from a (suc m) e q s h = by (p a) refl q h (λ q' l. stop_from (suc a) m e q' (omega arith) l)
    where
      by : (b : Bool) → p a ≡ b → (q : ℕ) → q < length (pick (p a) (a ∷ sift p (from (suc a) m)) (sift p (from (suc a) m)))
          → ((q' : ℕ) → q' < length (sift p (from (suc a) m)) → Stop p (sift p (from (suc a) m)) e q')
          → Stop p (pick (p a) (a ∷ sift p (from (suc a) m)) (sift p (from (suc a) m))) e q
      by false z q h ih = rw z (ih q (rw z at h))
      by true z zero h ih = rw z (record { passes = z; inside = omega arith; next = first_from (suc a) m e (omega arith) })
      by true z (suc q) h ih =
          let S = ih q (le_of_suc-le-suc (rw z at h)) in
          rw z (record { passes = S.passes; inside = S.inside; next = S.next })

  -- the first of them
  pub gap_first : (n : ℕ) → Gap p 0 n (get_or (sift p (up_to n)) 0 n)
  gap_first n = subst (λ (l : List ℕ). Gap p 0 n (get_or (sift p l) 0 n)) (from_up_to n) (first_from 0 n n (omega arith))

  -- each of them
  pub gap_stop : (n q : ℕ) → q < length (sift p (up_to n)) → Stop p (sift p (up_to n)) n q
  gap_stop n q h =
      subst (λ (l : List ℕ). Stop p (sift p l) n q) (from_up_to n)
      (stop_from 0 n n q (omega arith) (subst (λ (l : List ℕ). q < length (sift p l)) (sym (from_up_to n)) h))

-- ---- a walk over the cells that hold v

-- where it stands behind q of them: the number of the next one, or n
abbrev pub stop_of : ℕ → ℕ → (ℕ → ℕ → ℕ) → ℕ → ℕ → ℕ
stop_of k n corner v q = get_or (cells_of k n corner v) q n

-- whichever number stands for none
other_default : (l : List ℕ) (q d d' : ℕ) → q < length l → get_or l q d ≡ get_or l q d'
other_default [] q d d' h = absurd (not-suc-le-zero h)
other_default (x ∷ l) zero d d' h = refl
other_default (x ∷ l) (suc q) d d' h = other_default l q d d' (le_of_suc-le-suc h)

-- at the first of them
pub stop_first : (k n : ℕ) (corner : ℕ → ℕ → ℕ) (v : ℕ) → Gap (holds k corner v) 0 n (stop_of k n corner v 0)
unfolding cells_of
stop_first k n corner v = gap_first (holds k corner v) n

-- they are listed
module _ {k n v : ℕ} (corner : ℕ → ℕ → ℕ) {list : List ℕ} {named : ℕ} (C : CellsListed k n v corner list named) (fits : n ≤ length list) where
  many : length (cells_of k n corner v) ≡ named
  many = ap length (sym C.are) ∙ length-take-le named list (omega (arith, C.few))

  pub stop_read : (q : ℕ) → q < named → stop_of k n corner v q ≡ get_or list q 0
  stop_read q h =
      other_default (cells_of k n corner v) q n 0 (omega (arith, many)) ∙ ap (λ (s : List ℕ). get_or s q 0) (sym C.are) ∙ get_or-take named list q 0 h

  pub stop_end : stop_of k n corner v named ≡ n
  stop_end = get_or-eq_default (cells_of k n corner v) n (omega (arith, many))

  pub stop_here : (q : ℕ) → q < named → Stop (holds k corner v) (cells_of k n corner v) n q
  unfolding cells_of
  stop_here q h = gap_stop (holds k corner v) n q (omega (arith, many))
