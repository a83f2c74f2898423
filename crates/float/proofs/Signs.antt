-- A value's sign is the first bit of its pattern, and only a NaN differs from itself. Two values that compare as equal are one value. Assumes nothing.
use mathlib.Core.Path.{◌≡◌, refl, sym, ap, ◌∙◌, subst}
use Prim.Native.Nat.{ℕ, zero, suc, ◌+◌, ◌*◌, ◌/◌, ◌%◌, ◌^◌}
use mathlib.Core.Bool.{Bool, true, false, not, cond, ◌&&◌}
use lib.Dec.{T, leb, eqb, eqb_refl}
use lib.Ieee.{Float, nan, inf, fin, up, down, binary32, odd, of_fields, to_bits, fits, is_nan, ne}
use lib.Ieee.Exact.{HasValue, odd_sign}
use lib.Ieee.Bits.{is_true, of_bits-to_bits}
use Rattle.float.specs.Order.{sign_of}
use Rattle.float.proofs.Patterns.{read}

pub nan_test : (x : Float) → ne x x ≡ is_nan x
unfolding ne is_nan
nan_test nan = refl
nan_test (inf true) = refl
nan_test (inf false) = refl
nan_test (fin true m e) = ap (λ (z : Bool). not (z && true)) (is_true (eqb (m * up e * down e) (m * up e * down e)) (eqb_refl (m * up e * down e)))
nan_test (fin false m e) = ap (λ (z : Bool). not (z && true)) (is_true (eqb (m * up e * down e) (m * up e * down e)) (eqb_refl (m * up e * down e)))

pub not_a_nan : (x : Float) → ne x x ≡ false → T (not (is_nan x))
not_a_nan x h = subst (λ (z : Bool). T (not z)) (sym h ∙ nan_test x) tt

-- ---- the sign
of_value : (x : Float) (s : Bool) (a c : ℕ) → HasValue x s a c → sign_of x ≡ s
unfolding sign_of
of_value nan s a c h = absurd h
of_value (inf t) s a c h = absurd h
of_value (fin t m e) s a c h = h.0

fields_sign : (s : Bool) (x t : ℕ) → T (not (is_nan (of_fields binary32 s x t))) → sign_of (of_fields binary32 s x t) ≡ s
unfolding of_fields is_nan sign_of
fields_sign s zero t n = of_value (odd 24 s t 0 149) s (t * 2 ^ 0) (2 ^ 149) (odd_sign 24 s t 0 149)
fields_sign s (suc x) t n = go (eqb (suc x) 255) (eqb t 0) n
  where
    go : (a b : Bool) → T (not (is_nan (cond a (cond b (inf s) nan) (odd 24 s (2 ^ 23 + t) x 149)))) → sign_of (cond a (cond b (inf s) nan) (odd 24 s (2 ^ 23 + t) x 149)) ≡ s
    go true true n = refl
    go true false n = absurd n
    go false b n = of_value (odd 24 s (2 ^ 23 + t) x 149) s ((2 ^ 23 + t) * 2 ^ x) (2 ^ 149) (odd_sign 24 s (2 ^ 23 + t) x 149)

pub first_bit : (x : Float) → T (fits binary32 x) → T (not (is_nan x)) → leb (2 ^ 31) (to_bits binary32 x) ≡ sign_of x
first_bit x f n =
    let b = to_bits binary32 x in
    let e : x ≡ of_fields binary32 (leb (2 ^ 31) b) (b % 2 ^ 31 / 2 ^ 23) (b % 2 ^ 23) = sym (of_bits-to_bits binary32 x f) ∙ read b (leb (2 ^ 31) b) (b % 2 ^ 31 / 2 ^ 23) (b % 2 ^ 23) refl refl refl in
    sym (ap sign_of e ∙ fields_sign (leb (2 ^ 31) b) (b % 2 ^ 31 / 2 ^ 23) (b % 2 ^ 23) (subst (λ (z : Float). T (not (is_nan z))) e n))
