-- The tests of a list of particles, from each place on.
use Prim.Native.Nat.{ℕ, ◌+◌, ◌<◌, ◌≤◌}
use native.Mathlib.Numerals.{add-one}
use native.Mathlib.Omega.{arith}
use mathlib.Core.Path.{◌≡◌, refl, sym, ◌∙◌, ap}
use mathlib.Core.Bool.{true, false}
use mathlib.Core.List.{List, [], ◌∷◌}
use lib.ListN.{length, get_or, drop, length-drop}
use lib.Seq.{drop-cons}
use borrow.Author.Tests.{lt-ltb, le-ltb}
use Rattle.model.specs.Calls.{strictly}

-- two numbers and what is behind them
two_on : (l : List ℕ) (i : ℕ) → i + 1 < length l → drop i l ≡ get_or l i 0 ∷ get_or l (i + 1) 0 ∷ drop (i + 1 + 1) l
two_on l i h = rw (drop-cons l i 0 (omega arith), ← add-one i, drop-cons l (i + 1) 0 h, ← add-one (i + 1)) refl

-- a list of at most one number rises
one_rises : (l : List ℕ) → length l ≤ 1 → strictly l ≡ true
unfolding strictly
one_rises [] h = refl
one_rises (x ∷ []) h = refl
one_rises (x ∷ y ∷ l) h = absurd (omega arith)

module _ (l : List ℕ) (i : ℕ) where
  -- it rises on past a number that rises
  pub strictly_on : i + 1 < length l → get_or l i 0 < get_or l (i + 1) 0 → strictly (drop (i + 1) l) ≡ strictly (drop i l)
  unfolding strictly
  strictly_on h g = sym (ap strictly (two_on l i h) ∙ rw (lt-ltb _ _ g) (ap strictly (sym (drop-cons l (i + 1) 0 h ∙ ap (λ (m : ℕ). get_or l (i + 1) 0 ∷ drop m l) (sym (add-one (i + 1)))))))

  -- it stops at one that doesn't
  pub strictly_stop : i + 1 < length l → get_or l (i + 1) 0 ≤ get_or l i 0 → strictly (drop i l) ≡ false
  unfolding strictly
  strictly_stop h g = ap strictly (two_on l i h) ∙ rw (le-ltb _ _ g) refl

  -- at the last number
  pub strictly_end : length l ≤ i + 1 → strictly (drop i l) ≡ true
  strictly_end h = one_rises (drop i l) (omega (arith, length-drop i l))
