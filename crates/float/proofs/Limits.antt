-- The ranges and the size. A magnitude is at most a limit where the value lies between minus the limit and the limit, and no finite f32 is past the largest. Assumes nothing.
use mathlib.Core.Path.{◌≡◌, refl, sym, ap, ◌∙◌, subst}
use Prim.Native.Nat.{ℕ, zero, suc, ◌+◌, ◌-◌, ◌*◌, ◌^◌, ◌≤◌, ◌<◌}
use native.Mathlib.Nat.{mul-le-mul, mul-le-mul_right}
use native.Mathlib.Omega.{arith}
use mathlib.Core.Bool.{Bool, true, false, ◌&&◌, ◌||◌, true≢false}
use lib.IntN.{ℤ}
use lib.Dec.{T, ltb, eqb, ltb→lt, lt→ltb, eqb→eq}
use lib.Pow.{pow_pos, pow_mono}
use lib.Ieee.{Float, nan, inf, fin, binary32, up, down, of_bits, fits, neg, lt, le, eq}
use lib.Ieee.Fits.{eq→eqb, and_l}
use lib.Ieee.Bits.{is_true}
use lib.Ieee.Order.{le_of_values}
use Rattle.float.specs.Numbers.{zero32, abs_of, largest}
use Rattle.float.specs.Ranges.{finite?, number?, not_below0?}
use Rattle.float.proofs.Picks.{or_yes_1, or_no}
use Rattle.float.proofs.Values.{same_value}
use Rattle.float.proofs.Units.{units_of, agree, with_true, abs_value}

-- ---- tests on numbers
same_test : (a b : ℕ) → eqb a b ≡ eqb b a
same_test a b = agree (eqb a b) (eqb b a) (λ h. eq→eqb (sym (eqb→eq a b h))) (λ h. eq→eqb (sym (eqb→eq b a h)))

-- a number that is not above 0 is at most one that is not below 0
apart : (a b : ℕ) → (ltb 0 (a + b) || (eqb a b && eqb a 0)) ≡ true
apart zero zero = refl
apart zero (suc b) = or_yes_1 (eqb 0 (suc b) && true) (is_true (ltb 0 (0 + suc b)) (lt→ltb 0 (0 + suc b) (omega arith)))
apart (suc a) b = or_yes_1 (eqb (suc a) b && eqb (suc a) 0) (is_true (ltb 0 (suc a + b)) (lt→ltb 0 (suc a + b) (omega arith)))

-- ---- the magnitude and a limit
pub between : (x : Float) (n : ℕ) (d : ℤ) → le (abs_of x) (fin false n d) ≡ (le x (fin false n d) && le (fin true n d) x)
unfolding le lt eq abs_of
between nan n d = refl
between (inf true) n d = refl
between (inf false) n d = refl
between (fin false m e) n d =
    let a = m * up e * down d in
    let b = n * up d * down e in
    sym (ap (λ (z : Bool). (ltb a b || (eqb a b && true)) && z) (apart b a) ∙ with_true (ltb a b || (eqb a b && true)))
between (fin true m e) n d =
    let a = m * up e * down d in
    let b = n * up d * down e in
    ap (λ (z : Bool). ltb a b || (z && true)) (same_test a b) ∙ sym (ap (λ (z : Bool). z && (ltb a b || (eqb b a && true))) (apart a b))

-- the second test decides where the first holds, and the first where it fails
module _ (x : Float) (n : ℕ) (d : ℤ) where
  pub not_above : le x (fin false n d) ≡ true → le (fin true n d) x ≡ le (abs_of x) (fin false n d)
  not_above h = sym (between x n d ∙ ap (λ (z : Bool). z && le (fin true n d) x) h)

  pub above : le x (fin false n d) ≡ false → false ≡ le (abs_of x) (fin false n d)
  above h = sym (between x n d ∙ ap (λ (z : Bool). z && le (fin true n d) x) h)

-- what a limit bounds is finite
pub limit_finite : (x : Float) (n : ℕ) (d : ℤ) → le (abs_of x) (fin false n d) ≡ true → finite? x ≡ true
unfolding le lt eq abs_of finite?
limit_finite nan n d h = absurd (true≢false (sym h))
limit_finite (inf s) n d h = absurd (true≢false (sym h))
limit_finite (fin s m e) n d h = refl

-- ---- the largest
most : (q j : ℕ) → q < 2 ^ 24 → j ≤ 253 → q * 2 ^ j ≤ (2 ^ 24 - 1) * 2 ^ 253
most q j h l =
    let k : q ≤ 2 ^ 24 - 1 = omega arith in
    mul-le-mul k (pow_mono l)

pub finite_is : (x : Float) → T (fits binary32 x) → le (abs_of x) largest ≡ finite? x
unfolding finite? le abs_of
finite_is nan h = refl
finite_is (inf s) h = refl
finite_is (fin s m e) h =
    let x = fin s m e in
    let u = units_of x h refl in
    is_true (le (abs_of x) largest)
    (le_of_values (abs_of x) largest (u.q * 2 ^ u.j) (2 ^ 149) ((2 ^ 24 - 1) * 2 ^ 253) (2 ^ 149) (pow_pos 149) (pow_pos 149) (abs_value x u.sign (u.q * 2 ^ u.j) (2 ^ 149) u.value) (refl, refl)
    (mul-le-mul_right (2 ^ 149) (most u.q u.j u.small u.place)))

-- ---- the size
pub zero_size : (x : Float) → T (fits binary32 x) → eq x zero32 ≡ true → zero32 ≡ abs_of x
unfolding eq abs_of fits
zero_size nan h y = absurd (true≢false (sym y))
zero_size (inf s) h y = absurd (true≢false (sym y))
zero_size (fin s m e) h y =
    let a = m * up e * 1 in
    let b = 0 * down e in
    let same : a ≡ b = eqb→eq a b (and_l (eqb a b) _ (subst T (sym y) tt)) in
    same_value binary32 zero32 (fin false m e) false 0 1 (omega arith) tt (unsigned m e h) (refl, refl) (refl, same)
  where
    unsigned : (m : ℕ) (e : ℤ) → T (fits binary32 (fin s m e)) → T (fits binary32 (fin false m e))
    unsigned zero e h = h
    unsigned (suc m) e h = h

pub below_size : (x : Float) → lt x zero32 ≡ true → neg x ≡ abs_of x
unfolding lt neg abs_of
below_size nan y = absurd (true≢false (sym y))
below_size (inf true) y = refl
below_size (inf false) y = absurd (true≢false (sym y))
below_size (fin true m e) y = refl
below_size (fin false m e) y = absurd (none (m * up e * 1) (down e) (ltb→lt (m * up e * 1) (0 * down e) (subst T (sym y) tt)))
  where
    none : (a b : ℕ) → a < 0 * b → ⊥
    none a b h = omega arith

pub above_size : (x : Float) → eq x zero32 ≡ false → lt x zero32 ≡ false → x ≡ abs_of x
unfolding lt eq abs_of
above_size nan y z = refl
above_size (inf true) y z = absurd (true≢false z)
above_size (inf false) y z = refl
above_size (fin true m e) y z = absurd (true≢false (sym (apart (m * up e * 1) (0 * down e)) ∙ or_no z y))
above_size (fin false m e) y z = refl

-- ---- worked cases: 1,048,576 and its negative are in range, the next f32 is not, and minus zero is not below 0
pub at_limit : (number? (of_bits binary32 0x4980_0000) ≡ true) × (number? (of_bits binary32 0xc980_0000) ≡ true)
unfolding number? abs_of of_bits le
at_limit = (refl, refl)

pub past_limit : (number? (of_bits binary32 0x4980_0001) ≡ false) × (number? (of_bits binary32 0xc980_0001) ≡ false)
unfolding number? abs_of of_bits le
past_limit = (refl, refl)

pub minus_zero : not_below0? (of_bits binary32 0x8000_0000) ≡ true
unfolding not_below0? of_bits le
minus_zero = refl
