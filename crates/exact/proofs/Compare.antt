-- Two floats that are whole numbers compare as these do. Assumes nothing.
use Rattle.std.proofs.Common.{◌≡◌, ℕ, zero, suc, ◌+◌, ◌*◌, ◌<◌, ◌≤◌, Bool, true, false, ◌&&◌, ltb, ℤ, nat_abs, sym, refl, ap, ◌∙◌, mul-le-mul_right, mul_assoc, mul_comm, add-mul, mul-lt-mul_of_pos_right, mul-pos, zero-add, zero-mul, arith, le-ltb, lt-ltb, eq-eqb}
use native.Mathlib.Decide.{dec_lt}
use lib.IntN.{pos-ne-negsuc}
use lib.Signed.{lt_z}
use lib.Ieee.{Float, fin, up, down, below, level, lt, eq}
use lib.Ieee.Fits.{down_pos}
use Rattle.float.specs.Whole.{signed, Is}
use Rattle.float.proofs.Exact.{open_value, size_of}
use Rattle.exact.proofs.Order.{one_more}

-- ---- sizes over one denominator

pub less_scaled : (a b C : ℕ) → 0 < C → ltb (a * C) (b * C) ≡ ltb a b
less_scaled a b C p = elim (dec_lt a b) [
  | yes l ↦ lt-ltb (a * C) (b * C) (mul-lt-mul_of_pos_right l p) ∙ sym (lt-ltb a b l)
  | no l ↦
      let g : b ≤ a = omega arith in
      le-ltb (a * C) (b * C) (mul-le-mul_right C g) ∙ sym (le-ltb a b g)
]

below_scaled : (s t : Bool) (a b C : ℕ) → 0 < C → below s (a * C) t (b * C) ≡ below s a t b
below_scaled false false a b C p = less_scaled a b C p
below_scaled false true a b C p = refl
below_scaled true false a b C p = ap (λ (z : ℕ). ltb 0 z) (sym (add-mul a b C)) ∙ ap (λ (z : ℕ). ltb z ((a + b) * C)) (sym (zero-mul C)) ∙ less_scaled 0 (a + b) C p
below_scaled true true a b C p = less_scaled b a C p

-- ---- the order of signed numbers

below_signed : (s t : Bool) (a b : ℕ) → below s a t b ≡ lt_z (signed s a) (signed t b)
below_signed false false a b = refl
below_signed false true a zero = sym (le-ltb a 0 (omega arith))
below_signed false true a (suc b) = refl
below_signed true false zero b = ap (λ (z : ℕ). ltb 0 z) (zero-add b)
below_signed true false (suc a) b = lt-ltb 0 (suc a + b) (omega arith)
below_signed true true zero zero = refl
below_signed true true zero (suc b) = le-ltb (suc b) 0 (omega arith)
below_signed true true (suc a) zero = lt-ltb 0 (suc a) (omega arith)
below_signed true true (suc a) (suc b) = one_more b a

-- ---- two floats

pub is_less : (x y : Float) (a b : ℤ) → Is x a → Is y b → lt x y ≡ lt_z a b
unfolding lt
is_less x y a b h k =
    let v = open_value x h.sign h.size h.value in
    let w = open_value y k.sign k.size k.value in
    let e = v.1 in
    let d = w.1 in
    let C = down e * down d in
    let p : v.0 * up e * down d ≡ h.size * C = ap (λ (z : ℕ). z * down d) v.3 ∙ mul_assoc h.size (down e) (down d) in
    let q : w.0 * up d * down e ≡ k.size * C = ap (λ (z : ℕ). z * down e) w.3 ∙ mul_assoc k.size (down d) (down e) ∙ ap (λ (z : ℕ). k.size * z) (mul_comm (down d) (down e)) in
    ap (λ (z : Float). lt z y) v.2
    ∙ ap (λ (z : Float). lt (fin h.sign v.0 e) z) w.2
    ∙ ap (λ (z : ℕ). below h.sign z k.sign (w.0 * up d * down e)) p
    ∙ ap (λ (z : ℕ). below h.sign (h.size * C) k.sign z) q
    ∙ below_scaled h.sign k.sign h.size k.size C (mul-pos (down_pos e) (down_pos d))
    ∙ below_signed h.sign k.sign h.size k.size
    ∙ ap (λ (i : ℤ). lt_z i (signed k.sign k.size)) h.is
    ∙ ap (λ (i : ℤ). lt_z a i) k.is

-- ---- equal numbers

level_same : (s t : Bool) (a C : ℕ) → signed s a ≡ signed t a → level s (a * C) t (a * C) ≡ true
level_same false false a C h = ap (λ (z : Bool). z && true) (eq-eqb (a * C) (a * C) refl)
level_same true true a C h = ap (λ (z : Bool). z && true) (eq-eqb (a * C) (a * C) refl)
level_same false true zero C h = ap (λ (z : ℕ). level false z true z) (zero-mul C)
level_same true false zero C h = ap (λ (z : ℕ). level true z false z) (zero-mul C)
level_same false true (suc a) C h = absurd (pos-ne-negsuc (suc a) a h)
level_same true false (suc a) C h = absurd (pos-ne-negsuc (suc a) a (sym h))

pub is_equal : (x y : Float) (z : ℤ) → Is x z → Is y z → eq x y ≡ true
unfolding eq
is_equal x y z h k =
    let v = open_value x h.sign h.size h.value in
    let w = open_value y k.sign k.size k.value in
    let e = v.1 in
    let d = w.1 in
    let C = down e * down d in
    let both : signed h.sign h.size ≡ signed k.sign k.size = h.is ∙ sym k.is in
    let one : k.size ≡ h.size = sym (size_of k.sign k.size) ∙ ap nat_abs (sym both) ∙ size_of h.sign h.size in
    let p : v.0 * up e * down d ≡ h.size * C = ap (λ (z : ℕ). z * down d) v.3 ∙ mul_assoc h.size (down e) (down d) in
    let q : w.0 * up d * down e ≡ h.size * C = ap (λ (z : ℕ). z * down e) (w.3 ∙ ap (λ (z : ℕ). z * down d) one) ∙ mul_assoc h.size (down d) (down e) ∙ ap (λ (z : ℕ). h.size * z) (mul_comm (down d) (down e)) in
    ap (λ (f : Float). eq f y) v.2
    ∙ ap (λ (f : Float). eq (fin h.sign v.0 e) f) w.2
    ∙ ap (λ (n : ℕ). level h.sign n k.sign (w.0 * up d * down e)) p
    ∙ ap (λ (n : ℕ). level h.sign (h.size * C) k.sign n) q
    ∙ level_same h.sign k.sign h.size C (both ∙ ap (signed k.sign) one)
