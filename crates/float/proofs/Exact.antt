-- Sums, differences and products of f32 that are whole numbers are exact up to 2 ^ 24. Assumes nothing.
use mathlib.Core.Path.{◌≡◌, refl, sym, ap, ◌∙◌, subst}
use mathlib.Core.Logic.{inl, inr}
use Prim.Native.Nat.{ℕ, zero, suc, ◌+◌, ◌-◌, ◌*◌, ◌^◌, ◌≤◌, ◌<◌}
use native.Mathlib.Nat.{zero-lt-suc, add-mul, mul-sub, mul_comm, mul_assoc, mul-one, le_of_lt, mul-pos, mul-zero, zero-mul, mul-lt-mul_of_pos_right, mul-le-mul_right}
use native.Mathlib.Omega.{arith}
use mathlib.Core.Bool.{Bool, true, false, not, cond}
use lib.IntN.{ℤ, pos, negsuc, neg_ℤ, nat_abs, ◌+ℤ◌, ◌-ℤ◌, ◌*ℤ◌, +ℤ_comm, neg_ℤ-+ℤ, neg_ℤ-neg_ℤ}
use lib.Dec.{ltb, lt→ltb}
use lib.Arith.{le→nltb}
use lib.Ieee.{Float, nan, inf, fin, binary32, up, down, unlike, round, neg, sum, add, sub, mul, of_int}
use lib.Ieee.Fits.{down_pos}
use lib.Ieee.Exact.{HasValue}
use lib.Ieee.Back.{round_whole}
use lib.Ieee.Scale.{round_same}
use lib.Ieee.Bits.{is_true, is_false}
use Rattle.float.specs.Whole.{signed, Is}
use Rattle.float.proofs.Patterns.{lt_or_ge}
use Rattle.float.proofs.Products.{mul_of}

-- ---- the whole numbers
pub size_of : (s : Bool) (n : ℕ) → nat_abs (signed s n) ≡ n
size_of false n = refl
size_of true zero = refl
size_of true (suc n) = refl

-- a - b
minus_ge : (a b : ℕ) → b ≤ a → pos a +ℤ neg_ℤ (pos b) ≡ pos (a - b)
minus_ge a zero h = ap pos (omega arith)
minus_ge a (suc b) h = ap (λ (t : Bool). cond t (negsuc (suc b - suc a)) (pos (a - suc b))) (is_false (ltb a (suc b)) (le→nltb a (suc b) h))

pub minus_lt : (a b : ℕ) → a < b → pos a +ℤ neg_ℤ (pos b) ≡ neg_ℤ (pos (b - a))
minus_lt a zero h = absurd (none a h)
  where
    none : (a : ℕ) → a < 0 → ⊥
    none a h = omega arith
minus_lt a (suc b) h =
    let e : suc b - a ≡ suc (b - a) = omega arith in
    let g : suc b - suc a ≡ b - a = omega arith in
    ap (λ (t : Bool). cond t (negsuc (suc b - suc a)) (pos (a - suc b))) (is_true (ltb a (suc b)) (lt→ltb a (suc b) h))
    ∙ ap negsuc g
    ∙ sym (ap (λ (z : ℕ). neg_ℤ (pos z)) e)

signed_mul : (s t : Bool) (a b : ℕ) → signed (unlike s t) (a * b) ≡ signed s a *ℤ signed t b
signed_mul false false a b = refl
signed_mul false true a zero = ap (λ (z : ℕ). neg_ℤ (pos z)) (mul-zero a) ∙ sym (ap pos (mul-zero a))
signed_mul false true a (suc b) = refl
signed_mul true false zero b = ap (λ (z : ℕ). neg_ℤ (pos z)) (zero-mul b) ∙ sym (ap pos (zero-mul b))
signed_mul true false (suc a) b = refl
signed_mul true true zero zero = refl
signed_mul true true zero (suc b) = ap pos (zero-mul (suc b)) ∙ sym (ap (λ (z : ℕ). neg_ℤ (pos z)) (zero-mul (suc b)))
signed_mul true true (suc a) zero = ap pos (mul-zero (suc a)) ∙ sym (ap (λ (z : ℕ). neg_ℤ (pos z)) (mul-zero (suc a)))
signed_mul true true (suc a) (suc b) = refl

-- ---- k * C / C rounds to k
pub round_at : (s : Bool) (k C : ℕ) → 0 < C → k ≤ 2 ^ 24 → HasValue (round binary32 s (k * C) C) s k 1
round_at s k C p h = subst (λ (x : Float). HasValue x s k 1) (round_same binary32 s k 1 (k * C) C (omega arith) p (sym (mul-one (k * C)))) (round_whole binary32 s k h)

-- ---- the sum
module _ (a b C : ℕ) (p : 0 < C) where
  plus : a * C + b * C ≡ (a + b) * C
  plus = sym (add-mul a b C)

  less : (x y : ℕ) → x * C - y * C ≡ (x - y) * C
  less x y = sym (mul_comm (x - y) C ∙ mul-sub C x y ∙ ap (λ (z : ℕ). z - C * y) (mul_comm C x) ∙ ap (λ (z : ℕ). x * C - z) (mul_comm C y))

  -- the same sign
  alike : (s : Bool) → a + b ≤ 2 ^ 24 → HasValue (round binary32 s (a * C + b * C) C) s (a + b) 1
  alike s h = subst (λ (z : ℕ). HasValue (round binary32 s z C) s (a + b) 1) (sym plus) (round_at s (a + b) C p h)

  apart : (s : Bool) (x y : ℕ) → x - y ≤ 2 ^ 24 → HasValue (round binary32 s (x * C - y * C) C) s (x - y) 1
  apart s x y h = subst (λ (z : ℕ). HasValue (round binary32 s z C) s (x - y) 1) (sym (less x y)) (round_at s (x - y) C p h)

  test_yes : (x y : ℕ) → x < y → ltb (x * C) (y * C) ≡ true
  test_yes x y l = is_true (ltb (x * C) (y * C)) (lt→ltb (x * C) (y * C) (mul-lt-mul_of_pos_right l p))

  test_no : (x y : ℕ) → y ≤ x → ltb (x * C) (y * C) ≡ false
  test_no x y g = is_false (ltb (x * C) (y * C)) (le→nltb (x * C) (y * C) (mul-le-mul_right C g))

  -- b - a for b ≤ a, whose sign is that of a test
  low_side : b ≤ a → signed (ltb (b * C) (a * C)) (a - b) ≡ neg_ℤ (pos a) +ℤ pos b
  low_side g = elim (lt_or_ge b a) [
    | inl l ↦ ap (λ (t : Bool). signed t (a - b)) (test_yes b a l) ∙ sym (minus_lt b a l) ∙ +ℤ_comm (pos b) (neg_ℤ (pos a))
    | inr k ↦
        let e : a - b ≡ b - a = omega arith in
        ap (λ (t : Bool). signed t (a - b)) (test_no b a k) ∙ ap pos e ∙ sym (minus_ge b a k) ∙ +ℤ_comm (pos b) (neg_ℤ (pos a))
  ]

  sum_is : (s t : Bool) → nat_abs (signed s a +ℤ signed t b) ≤ 2 ^ 24 → Is (sum binary32 s (a * C) t (b * C) C) (signed s a +ℤ signed t b)
  unfolding sum
  sum_is false false h = record { sign = false; size = a + b; value = alike false h; is = refl }
  sum_is true true h =
      let e : neg_ℤ (pos (a + b)) ≡ neg_ℤ (pos a) +ℤ neg_ℤ (pos b) = neg_ℤ-+ℤ (pos a) (pos b) in
      record { sign = true; size = a + b; value = alike true (subst (λ (z : ℕ). z ≤ 2 ^ 24) (ap nat_abs (sym e) ∙ size_of true (a + b)) h); is = e }
  sum_is false true h = elim (lt_or_ge a b) [
    | inl l ↦
        subst (λ (t : Bool). Is (cond t (round binary32 true (b * C - a * C) C) (round binary32 false (a * C - b * C) C)) (pos a +ℤ neg_ℤ (pos b))) (sym (test_yes a b l))
        record { sign = true; size = b - a; value = apart true b a (subst (λ (z : ℕ). z ≤ 2 ^ 24) (ap nat_abs (minus_lt a b l) ∙ size_of true (b - a)) h); is = sym (minus_lt a b l) }
    | inr g ↦
        subst (λ (t : Bool). Is (cond t (round binary32 true (b * C - a * C) C) (round binary32 false (a * C - b * C) C)) (pos a +ℤ neg_ℤ (pos b))) (sym (test_no a b g))
        record { sign = false; size = a - b; value = apart false a b (subst (λ (z : ℕ). z ≤ 2 ^ 24) (ap nat_abs (minus_ge a b g)) h); is = sym (minus_ge a b g) }
  ]
  sum_is true false h = elim (lt_or_ge a b) [
    | inl l ↦
        let e : neg_ℤ (pos a) +ℤ pos b ≡ pos (b - a) = +ℤ_comm (neg_ℤ (pos a)) (pos b) ∙ minus_ge b a (le_of_lt l) in
        subst (λ (t : Bool). Is (cond t (round binary32 false (b * C - a * C) C) (round binary32 (ltb (b * C) (a * C)) (a * C - b * C) C)) (neg_ℤ (pos a) +ℤ pos b)) (sym (test_yes a b l))
        record { sign = false; size = b - a; value = apart false b a (subst (λ (z : ℕ). z ≤ 2 ^ 24) (ap nat_abs e) h); is = sym e }
    | inr g ↦
        let e = low_side g in
        subst (λ (t : Bool). Is (cond t (round binary32 false (b * C - a * C) C) (round binary32 (ltb (b * C) (a * C)) (a * C - b * C) C)) (neg_ℤ (pos a) +ℤ pos b)) (sym (test_no a b g))
        record { sign = ltb (b * C) (a * C); size = a - b; value = apart (ltb (b * C) (a * C)) a b (subst (λ (z : ℕ). z ≤ 2 ^ 24) (ap nat_abs (sym e) ∙ size_of (ltb (b * C) (a * C)) (a - b)) h); is = e }
  ]

-- ---- the operations
pub open_value : (x : Float) (s : Bool) (n : ℕ) → HasValue x s n 1 → (m : ℕ) × (e : ℤ) × (x ≡ fin s m e) × (m * up e ≡ n * down e)
open_value nan s n h = absurd h
open_value (inf t) s n h = absurd h
open_value (fin t m e) s n h = (m, e, ap (λ (z : Bool). fin z m e) h.0, sym (mul-one (m * up e)) ∙ h.1)

pub of_int_is : (z : ℤ) → nat_abs z ≤ 2 ^ 24 → Is (of_int binary32 z) z
unfolding of_int
of_int_is (pos n) h = record { sign = false; size = n; value = round_whole binary32 false n h; is = refl }
of_int_is (negsuc n) h = record { sign = true; size = suc n; value = round_whole binary32 true (suc n) h; is = refl }

neg_value : (x : Float) (s : Bool) (n : ℕ) → HasValue x s n 1 → HasValue (neg x) (not s) n 1
unfolding neg
neg_value nan s n h = absurd h
neg_value (inf t) s n h = absurd h
neg_value (fin t m e) s n h = (ap not h.0, h.1)

neg_signed : (s : Bool) (n : ℕ) → signed (not s) n ≡ neg_ℤ (signed s n)
neg_signed false n = refl
neg_signed true n = sym (neg_ℤ-neg_ℤ (pos n))

pub neg_is : (x : Float) (z : ℤ) → Is x z → Is (neg x) (neg_ℤ z)
neg_is x z h = record { sign = not h.sign; size = h.size; value = neg_value x h.sign h.size h.value; is = neg_signed h.sign h.size ∙ ap neg_ℤ h.is }

add_fin : (s : Bool) (m : ℕ) (e : ℤ) (t : Bool) (n : ℕ) (d : ℤ) → add binary32 (fin s m e) (fin t n d) ≡ sum binary32 s (m * up e * down d) t (n * up d * down e) (down e * down d)
unfolding add
add_fin s m e t n d = refl

pub add_is : (x y : Float) (a b : ℤ) → Is x a → Is y b → nat_abs (a +ℤ b) ≤ 2 ^ 24 → Is (add binary32 x y) (a +ℤ b)
add_is x y a b h k l =
    let v = open_value x h.sign h.size h.value in
    let w = open_value y k.sign k.size k.value in
    let m = v.0 in
    let e = v.1 in
    let n = w.0 in
    let d = w.1 in
    let C = down e * down d in
    let p : m * up e * down d ≡ h.size * C = ap (λ (z : ℕ). z * down d) v.3 ∙ mul_assoc h.size (down e) (down d) in
    let q : n * up d * down e ≡ k.size * C = ap (λ (z : ℕ). z * down e) w.3 ∙ mul_assoc k.size (down d) (down e) ∙ ap (λ (z : ℕ). k.size * z) (mul_comm (down d) (down e)) in
    let r : add binary32 x y ≡ sum binary32 h.sign (h.size * C) k.sign (k.size * C) C =
    ap (λ (z : Float). add binary32 z y) v.2
    ∙ ap (λ (z : Float). add binary32 (fin h.sign m e) z) w.2
    ∙ add_fin h.sign m e k.sign n d
    ∙ ap (λ (z : ℕ). sum binary32 h.sign z k.sign (n * up d * down e) C) p
    ∙ ap (λ (z : ℕ). sum binary32 h.sign (h.size * C) k.sign z C) q in
    let z : signed h.sign h.size +ℤ signed k.sign k.size ≡ a +ℤ b = ap (λ (i : ℤ). i +ℤ signed k.sign k.size) h.is ∙ ap (λ (i : ℤ). a +ℤ i) k.is in
    subst (λ (f : Float). Is f (a +ℤ b)) (sym r)
    (subst (λ (i : ℤ). Is (sum binary32 h.sign (h.size * C) k.sign (k.size * C) C) i) z
    (sum_is h.size k.size C (mul-pos (down_pos e) (down_pos d)) h.sign k.sign (subst (λ (i : ℤ). nat_abs i ≤ 2 ^ 24) (sym z) l)))

sub_opened : (x y : Float) → sub binary32 x y ≡ add binary32 x (neg y)
unfolding sub
sub_opened x y = refl

pub sub_is : (x y : Float) (a b : ℤ) → Is x a → Is y b → nat_abs (a -ℤ b) ≤ 2 ^ 24 → Is (sub binary32 x y) (a -ℤ b)
sub_is x y a b h k l = subst (λ (f : Float). Is f (a -ℤ b)) (sym (sub_opened x y)) (add_is x (neg y) a (neg_ℤ b) h (neg_is y b k) l)

pub mul_is : (x y : Float) (a b : ℤ) → Is x a → Is y b → nat_abs a * nat_abs b ≤ 2 ^ 24 → Is (mul binary32 x y) (a *ℤ b)
mul_is x y a b h k l =
    let s = unlike h.sign k.sign in
    let n = h.size * k.size in
    let r : mul binary32 x y ≡ round binary32 s (n * 1) 1 = mul_of x y h.sign k.sign h.size k.size 1 (zero-lt-suc 0) h.value k.value ∙ ap (λ (z : ℕ). round binary32 s z 1) (sym (mul-one n)) in
    let sa : nat_abs a ≡ h.size = ap nat_abs (sym h.is) ∙ size_of h.sign h.size in
    let sb : nat_abs b ≡ k.size = ap nat_abs (sym k.is) ∙ size_of k.sign k.size in
    subst (λ (f : Float). Is f (a *ℤ b)) (sym r)
    record {
      sign = s;
      size = n;
      value = round_at s n 1 (zero-lt-suc 0) (subst (λ (z : ℕ). z ≤ 2 ^ 24) (ap (λ (z : ℕ). z * nat_abs b) sa ∙ ap (λ (z : ℕ). h.size * z) sb) l);
      is = signed_mul h.sign k.sign h.size k.size ∙ ap (λ (i : ℤ). i *ℤ signed k.sign k.size) h.is ∙ ap (λ (i : ℤ). a *ℤ i) k.is;
    }
