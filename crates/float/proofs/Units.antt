-- A finite f32 is a whole number of units, q * 2 ^ j with q below 2 ^ 24. From its units: its size, and whether it is below 0. Assumes nothing.
use mathlib.Core.Path.{◌≡◌, refl, sym, ap, ◌∙◌, subst}
use mathlib.Core.Logic.{◌⊎◌, inl, inr}
use Prim.Native.Nat.{ℕ, zero, suc, ◌+◌, ◌*◌, ◌/◌, ◌%◌, ◌^◌, ◌≤◌, ◌<◌, zero-le}
use native.Mathlib.Nat.{eq-or-lt_of_le, eq_of_mul-eq-mul_right, le_trans, le_of_eq, mul-one, zero-mul, zero-lt-suc}
use native.Mathlib.Omega.{arith}
use mathlib.Core.Bool.{Bool, true, false, not, cond, ◌&&◌, ◌||◌, true≢false}
use lib.Dec.{T, leb, eqb, eqb→eq}
use lib.Ieee.{Float, nan, inf, fin, binary32, up, down, odd, of_fields, to_bits, fits, le}
use lib.Ieee.Fits.{down_pos, eq→eqb}
use lib.Ieee.Exact.{HasValue, odd_sign}
use lib.Ieee.Bits.{is_true, of_bits-to_bits}
use lib.Ieee.Order.{le_of_values}
use Rattle.float.specs.Numbers.{zero32, abs_of}
use Rattle.float.specs.Ranges.{finite?}
use Rattle.float.proofs.Patterns.{read, normal, subnormal}

-- x is q * 2 ^ j units, below 0 where the sign is true
pub record Units (x : Float) : Type 0 where
  pub sign : Bool
  pub q : ℕ
  pub j : ℕ
  pub small : q < 2 ^ 24
  pub place : j ≤ 253
  pub value : HasValue x sign (q * 2 ^ j) (2 ^ 149)

by_odd : (s : Bool) (q j : ℕ) → q < 2 ^ 24 → j ≤ 253 → Units (odd 24 s q j 149)
by_odd s q j h l = record { sign = s; q = q; j = j; small = h; place = l; value = odd_sign 24 s q j 149 }

topmost : (s : Bool) (t : ℕ) → finite? (of_fields binary32 s 255 t) ≡ false
unfolding of_fields finite?
topmost s t = go (eqb t 0)
  where
    go : (z : Bool) → finite? (cond z (inf s) nan) ≡ false
    go true = refl
    go false = refl

by_fields : (s : Bool) (f t : ℕ) → f ≤ 255 → t < 2 ^ 23 → finite? (of_fields binary32 s f t) ≡ true → Units (of_fields binary32 s f t)
by_fields s zero t h l y = subst (λ (x : Float). Units x) (sym (subnormal s t)) (by_odd s t 0 (omega arith) (omega arith))
by_fields s (suc f) t h l y = go (eq-or-lt_of_le h)
  where
    go : (suc f ≡ 255) ⊎ (suc f < 255) → Units (of_fields binary32 s (suc f) t)
    go (inl e) = absurd (true≢false (sym y ∙ ap (λ (z : ℕ). finite? (of_fields binary32 s z t)) e ∙ topmost s t))
    go (inr g) = subst (λ (x : Float). Units x) (sym (normal s f t (omega arith))) (by_odd s (2 ^ 23 + t) f (omega arith) (omega arith))

pub units_of : (x : Float) → T (fits binary32 x) → finite? x ≡ true → Units x
units_of x h y =
    let b = to_bits binary32 x in
    let e : of_fields binary32 (leb (2 ^ 31) b) (b % 2 ^ 31 / 2 ^ 23) (b % 2 ^ 23) ≡ x = sym (read b (leb (2 ^ 31) b) (b % 2 ^ 31 / 2 ^ 23) (b % 2 ^ 23) refl refl refl) ∙ of_bits-to_bits binary32 x h in
    subst (λ (z : Float). Units z) e
    (by_fields (leb (2 ^ 31) b) (b % 2 ^ 31 / 2 ^ 23) (b % 2 ^ 23) (omega arith) (omega arith) (ap finite? e ∙ y))

-- ---- what a value tells

-- two tests that follow from each other are one
pub agree : (p q : Bool) → (T p → T q) → (T q → T p) → p ≡ q
agree true true f g = refl
agree true false f g = absurd (f tt)
agree false true f g = absurd (g tt)
agree false false f g = refl

pub abs_value : (x : Float) (s : Bool) (a c : ℕ) → HasValue x s a c → HasValue (abs_of x) false a c
unfolding abs_of
abs_value nan s a c h = absurd h
abs_value (inf t) s a c h = absurd h
abs_value (fin t m e) s a c h = (refl, h.1)

pub value_finite : (x : Float) (s : Bool) (a c : ℕ) → HasValue x s a c → finite? x ≡ true
unfolding finite?
value_finite nan s a c h = absurd h
value_finite (inf t) s a c h = absurd h
value_finite (fin t m e) s a c h = refl

pub with_true : (a : Bool) → (a && true) ≡ a
with_true true = refl
with_true false = refl

no_size : (x a c d : ℕ) → 0 < c → 0 < d → x * c ≡ a * d → eqb 0 (x * 1) ≡ eqb a 0
no_size x a c d C D h =
    agree (eqb 0 (x * 1)) (eqb a 0)
    (λ t. let e : x ≡ 0 = sym (mul-one x) ∙ sym (eqb→eq 0 (x * 1) t) in
    eq→eqb (eq_of_mul-eq-mul_right d D a 0 (sym h ∙ ap (λ (z : ℕ). z * c) e ∙ zero-mul c ∙ sym (zero-mul d))))
    (λ t. let e : x ≡ 0 = eq_of_mul-eq-mul_right c C x 0 (h ∙ ap (λ (z : ℕ). z * d) (eqb→eq a 0 t) ∙ zero-mul d ∙ sym (zero-mul c)) in
    eq→eqb (sym (mul-one x ∙ e)))

-- a value is at least 0 where it has no minus sign, or is a zero
pub not_below : (x : Float) (s : Bool) (a c : ℕ) → 0 < c → HasValue x s a c → le zero32 x ≡ (not s || eqb a 0)
unfolding le
not_below nan s a c C h = absurd h
not_below (inf t) s a c C h = absurd h
not_below (fin false m e) s a c C h =
    is_true (le zero32 (fin false m e))
    (le_of_values zero32 (fin false m e) 0 1 (m * up e) (down e) (zero-lt-suc 0) (down_pos e) (refl, refl) (refl, refl) (le_trans (le_of_eq (zero-mul (down e))) zero-le))
    ∙ ap (λ (z : Bool). not z || eqb a 0) h.0
not_below (fin true m e) s a c C h =
    ap (λ (z : ℕ). eqb z (m * up e * 1) && eqb z 0) (zero-mul (down e))
    ∙ with_true (eqb 0 (m * up e * 1))
    ∙ no_size (m * up e) a c (down e) C (down_pos e) h.1
    ∙ ap (λ (z : Bool). not z || eqb a 0) h.0
