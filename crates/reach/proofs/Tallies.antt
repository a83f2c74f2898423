-- Laws of `tally`: how many of the first n numbers pass. They hold of any test; crate lists might have them. Assumes nothing.
use mathlib.Core.Path.{◌≡◌, refl, sym, ◌∙◌, ap}
use mathlib.Core.Bool.{Bool, true, false, false≢true}
use mathlib.Core.List.{List, [], ◌∷◌, map}
use Prim.Native.Nat.{ℕ, zero, suc, ◌+◌, ◌<◌, ◌≤◌, zero-le, suc-le-suc}
use native.Mathlib.Omega.{arith}
use native.Mathlib.Nat.{not-suc-le-zero}
use native.Mathlib.Decide.{ℕ_discrete}
use lib.ListN.{length, get_or}
use Rattle.lists.specs.Lists.{pick, sift, up_to}
use Rattle.lists.proofs.Sifts.{pick_by, pick_ap, up_to_length, up_to_at}
use Rattle.lists.proofs.Stores.{map_at}
use Rattle.reach.specs.Walk.{tally}

-- two tests that hold of the same are equal
pub both : (s t : Bool) → (s ≡ true → t ≡ true) → (t ≡ true → s ≡ true) → s ≡ t
both true t f g = sym (f refl)
both false true f g = g refl
both false false f g = refl

module _ (p q : ℕ → Bool) where
  -- tests that agree below n have one count
  pub tally_ext : (n : ℕ) → ((j : ℕ) → j < n → p j ≡ q j) → tally p n ≡ tally q n
  unfolding tally
  tally_ext zero h = refl
  tally_ext (suc n) h = rw (h n (omega arith), tally_ext n (λ j l. h j (omega arith)))

  -- a weaker test has no smaller count
  mono_by : (n : ℕ) (s t : Bool) → (s ≡ true → t ≡ true) → tally p n ≤ tally q n → pick s (suc (tally p n)) (tally p n) ≤ pick t (suc (tally q n)) (tally q n)
  mono_by n true true f h = suc-le-suc h
  mono_by n true false f h = absurd (false≢true (f refl))
  mono_by n false true f h = omega arith
  mono_by n false false f h = h

  pub tally_mono : (n : ℕ) → ((j : ℕ) → j < n → p j ≡ true → q j ≡ true) → tally p n ≤ tally q n
  unfolding tally
  tally_mono zero h = zero-le
  tally_mono (suc n) h = mono_by n (p n) (q n) (h n (omega arith)) (tally_mono n (λ j l. h j (omega arith)))

  -- one more number passes
  pub tally_more : (n i : ℕ) → i < n → p i ≡ false → q i ≡ true → ((j : ℕ) → j < n → (j ≡ i → ⊥) → q j ≡ p j) → tally q n ≡ suc (tally p n)
  unfolding tally
  tally_more zero i l e f h = absurd (not-suc-le-zero l)
  tally_more (suc n) i l e f h =
      elim (ℕ_discrete n i) [
        | yes d ↦
            let a : q n ≡ true = ap q d ∙ f in
            let b : p n ≡ false = ap p d ∙ e in
            let s : tally q n ≡ tally p n = sym (tally_ext n (λ j m. sym (h j (omega arith) (λ r. omega arith)))) in
            rw (a, b, s)
        | no d ↦
            let s : tally q n ≡ suc (tally p n) = tally_more n i (omega arith) e f (λ j m r. h j (omega arith) r) in
            let a : q n ≡ p n = h n (omega arith) d in
            rw (a, s) (pick_ap suc (p n) (suc (tally p n)) (tally p n))
      ]

module _ (p : ℕ → Bool) where
  pub tally_le : (n : ℕ) → tally p n ≤ n
  unfolding tally
  tally_le zero = zero-le
  tally_le (suc n) = let h = tally_le n in pick_by (λ (m : ℕ). m ≤ suc n) (p n) (suc-le-suc h) (omega arith)

  step : (n : ℕ) → tally p n ≤ tally p (suc n)
  unfolding tally
  step n = pick_by (λ (m : ℕ). tally p n ≤ m) (p n) (omega arith) (omega arith)

  -- one that does not pass leaves room; one that passes adds one
  pub tally_room : (n i : ℕ) → i < n → p i ≡ false → tally p n < n
  unfolding tally
  tally_room zero i l e = absurd (not-suc-le-zero l)
  tally_room (suc n) i l e =
      elim (ℕ_discrete n i) [
        | yes d ↦ let a : p n ≡ false = ap p d ∙ e in let h = tally_le n in rw a (omega arith)
        | no d ↦ let h = tally_room n i (omega arith) e in pick_by (λ (m : ℕ). m < suc n) (p n) (suc-le-suc h) (omega arith)
      ]

  pub tally_in : (n i : ℕ) → i < n → p i ≡ true → tally p i < tally p n
  unfolding tally
  tally_in zero i l e = absurd (not-suc-le-zero l)
  tally_in (suc n) i l e =
      elim (ℕ_discrete n i) [
        | yes d ↦ let a : p n ≡ true = ap p d ∙ e in rw (sym d, a) (omega arith)
        | no d ↦ let h = tally_in n i (omega arith) e in let s = step n in omega arith
      ]

  -- nothing passes
  pub tally_none : (n : ℕ) → ((j : ℕ) → j < n → p j ≡ false) → tally p n ≡ 0
  unfolding tally
  tally_none zero h = refl
  tally_none (suc n) h = rw (h n (omega arith)) (tally_none n (λ j l. h j (omega arith)))

  -- the first number apart
  pub tally_first : (n : ℕ) → tally p (suc n) ≡ pick (p 0) 1 0 + tally (λ j. p (suc j)) n
  unfolding tally
  tally_first zero = plain (p 0)
    where
      plain : (t : Bool) → pick t 1 0 ≡ pick t 1 0 + 0
      plain true = refl
      plain false = refl
  tally_first (suc n) = rw (tally_first n) (by (p (suc n)))
    where
      by : (t : Bool) → pick t (suc (pick (p 0) 1 0 + tally (λ j. p (suc j)) n)) (pick (p 0) 1 0 + tally (λ j. p (suc j)) n)
          ≡ pick (p 0) 1 0 + pick t (suc (tally (λ j. p (suc j)) n)) (tally (λ j. p (suc j)) n)
      by true = omega arith
      by false = refl

-- what is sifted, counted by place
module _ {A : Type 0} (q : A → Bool) where
  sift_by : (a : A) (l : List A) (m : ℕ) (t : Bool) → length (sift q l) ≡ m → length (pick t (a ∷ sift q l) (sift q l)) ≡ pick t 1 0 + m
  sift_by a l m true h = omega arith
  sift_by a l m false h = omega arith

  pub sift_tally : (l : List A) → length (sift q l) ≡ tally (λ j. get_or (map q l) j false) (length l)
  unfolding sift
  sift_tally [] = sym (tally_none (λ j. get_or (map q []) j false) 0 (λ j l. absurd (not-suc-le-zero l)))
  sift_tally (a ∷ l) = sift_by a l (tally (λ j. get_or (map q l) j false) (length l)) (q a) (sift_tally l) ∙ sym (tally_first (λ j. get_or (map q (a ∷ l)) j false) (length l))

-- a count as a list's length
pub tally_sift : (p : ℕ → Bool) (n : ℕ) → length (sift p (up_to n)) ≡ tally p n
tally_sift p n =
    sift_tally p (up_to n) ∙ ap (tally (λ j. get_or (map p (up_to n)) j false)) (up_to_length n)
    ∙ tally_ext (λ j. get_or (map p (up_to n)) j false) p n
    (λ j l. map_at p (up_to n) j 0 false (omega (arith, up_to_length n)) ∙ ap p (up_to_at n j l))
