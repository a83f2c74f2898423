-- With whole coordinates from -1024 to 1024 the fraction of a hit is within 1 / 16,777,216 of the true one. Assumes nothing.
use mathlib.Core.Path.{◌≡◌, refl, sym, ap, ◌∙◌, subst}
use mathlib.Core.Logic.{◌⊎◌, inl, inr}
use Prim.Native.Nat.{ℕ, zero, suc, ◌+◌, ◌-◌, ◌*◌, ◌^◌, ◌≤◌, ◌<◌, zero-le}
use native.Mathlib.Nat.{eq-zero-or-pos, le-add_right, le_of_lt, le_trans, le_of_eq, mul-pos, mul-one, zero-mul, zero-lt-suc, add-zero}
use native.Mathlib.Omega.{arith}
use mathlib.Core.Bool.{Bool, true, false, cond, ◌&&◌, ◌||◌, true≢false}
use lib.IntN.{ℤ, pos, negsuc, nat_abs, ◌-ℤ◌, +ℤ_idr}
use lib.Signed.{lt_z}
use lib.Arith.{le→nltb}
use lib.Dec.{T, ltb, eqb, ltb→lt, lt→ltb, eqb→eq}
use lib.Ieee.{Float, nan, inf, fin, binary32, up, down, unlike, round, sub, mul, div, lt, le, eq, level}
use lib.Ieee.Fits.{up_pos}
use lib.Ieee.Exact.{HasValue}
use lib.Ieee.Bits.{is_true, is_false}
use lib.Ieee.Order.{round_mono}
use lib.Ieee.Positive.{above, above_of_le}
use Rattle.float.specs.Numbers.{zero32, one}
use Rattle.blade.specs.Blade.{clamp_low, clamp_high}
use Rattle.float.specs.Whole.{signed, Is, Near}
use Rattle.float.proofs.Exact.{open_value, size_of, sub_is, minus_lt, round_at}
use Rattle.blade.proofs.Sides.{is_right}
use Rattle.float.proofs.Products.{mul_of, div_of}
use Rattle.float.proofs.Error.{near, close}

-- ---- signs of whole numbers
sign_left : (s : Bool) (n : ℕ) → T (lt_z (pos 0) (signed s n)) → (s ≡ false) × (0 < n)
sign_left false n t = (refl, ltb→lt 0 n t)
sign_left true zero t = absurd t
sign_left true (suc n) t = absurd t

sign_right : (s : Bool) (n : ℕ) → T (lt_z (signed s n) (pos 0)) → (s ≡ true) × (0 < n)
sign_right false n t = absurd (none n (ltb→lt n 0 t))
  where
    none : (n : ℕ) → n < 0 → ⊥
    none n h = omega arith
sign_right true zero t = absurd t
sign_right true (suc n) t = (refl, zero-lt-suc n)

-- not on one side of the line, both off it
pub record Opposite (p q : ℤ) : Type 0 where
  pub no_left : T (lt_z (pos 0) p) → T (lt_z (pos 0) q) → ⊥
  pub no_right : T (lt_z p (pos 0)) → T (lt_z q (pos 0)) → ⊥

left_suc : (n : ℕ) → T (lt_z (pos 0) (pos (suc n)))
left_suc n = lt→ltb 0 (suc n) (zero-lt-suc n)

apart : (p q : ℤ) → Opposite p q → nat_abs (p -ℤ q) ≡ nat_abs p + nat_abs q
apart (pos zero) (pos zero) o = refl
apart (pos zero) (pos (suc b)) o =
    let e : suc b - 0 ≡ 0 + suc b = omega arith in
    ap nat_abs (minus_lt 0 (suc b) (zero-lt-suc b)) ∙ size_of true (suc b - 0) ∙ e
apart (pos (suc a)) (pos zero) o = refl
apart (pos (suc a)) (pos (suc b)) o = absurd (o.no_left (left_suc a) (left_suc b))
apart (pos a) (negsuc b) o = refl
apart (negsuc a) (pos zero) o = ap nat_abs (+ℤ_idr (negsuc a)) ∙ sym (add-zero (suc a))
apart (negsuc a) (pos (suc b)) o = omega arith
apart (negsuc a) (negsuc b) o = absurd (o.no_right tt tt)

-- the quotient p / (p - q) is not negative, or p is 0
quotient_sign : (p q : ℤ) → Opposite p q → (s t : Bool) (a b : ℕ) → signed s a ≡ p → signed t b ≡ p -ℤ q → (unlike s t ≡ false) ⊎ (a ≡ 0)
quotient_sign (pos zero) q o s t a b h k = inr (sym (size_of s a) ∙ ap nat_abs h)
quotient_sign (pos (suc n)) (pos (suc m)) o s t a b h k = absurd (o.no_left (left_suc n) (left_suc m))
quotient_sign (pos (suc n)) (pos zero) o s t a b h k =
    let e = sign_left s a (subst (λ (z : ℤ). T (lt_z (pos 0) z)) (sym h) (left_suc n)) in
    let g = sign_left t b (subst (λ (z : ℤ). T (lt_z (pos 0) z)) (sym (k ∙ ap pos (add-zero (suc n)))) (left_suc n)) in
    inl (ap (λ (z : Bool). unlike z t) e.0 ∙ ap (λ (z : Bool). unlike false z) g.0)
quotient_sign (pos (suc n)) (negsuc m) o s t a b h k =
    let e = sign_left s a (subst (λ (z : ℤ). T (lt_z (pos 0) z)) (sym h) (left_suc n)) in
    let g = sign_left t b (subst (λ (z : ℤ). T (lt_z (pos 0) z)) (sym k) (lt→ltb 0 (suc n + suc m) (omega arith))) in
    inl (ap (λ (z : Bool). unlike z t) e.0 ∙ ap (λ (z : Bool). unlike false z) g.0)
quotient_sign (negsuc n) (pos zero) o s t a b h k =
    let e = sign_right s a (subst (λ (z : ℤ). T (lt_z z (pos 0))) (sym h) tt) in
    let g = sign_right t b (subst (λ (z : ℤ). T (lt_z z (pos 0))) (sym (k ∙ +ℤ_idr (negsuc n))) tt) in
    inl (ap (λ (z : Bool). unlike z t) e.0 ∙ ap (λ (z : Bool). unlike true z) g.0)
quotient_sign (negsuc n) (pos (suc m)) o s t a b h k =
    let e = sign_right s a (subst (λ (z : ℤ). T (lt_z z (pos 0))) (sym h) tt) in
    let g = sign_right t b (subst (λ (z : ℤ). T (lt_z z (pos 0))) (sym k) tt) in
    inl (ap (λ (z : Bool). unlike z t) e.0 ∙ ap (λ (z : Bool). unlike true z) g.0)
quotient_sign (negsuc n) (negsuc m) o s t a b h k = absurd (o.no_right tt tt)

-- ---- two offsets on one side have a product above zero, so the test for a miss sees them
above_zero : (z : Float) → T (above z) → lt zero32 z ≡ true
unfolding lt
above_zero nan h = absurd h
above_zero (inf true) h = absurd h
above_zero (inf false) h = refl
above_zero (fin true m e) h = absurd h
above_zero (fin false m e) h =
    is_true (ltb (0 * down e) (m * up e * 1))
    (lt→ltb (0 * down e) (m * up e * 1) (subst (λ (z : ℕ). z < m * up e * 1) (sym (zero-mul (down e))) (mul-pos (mul-pos (ltb→lt 0 m h) (up_pos e)) (zero-lt-suc 0))))

one_is : round binary32 false 1 1 ≡ one
unfolding round
one_is = refl

product_above : (k : ℕ) → 0 < k → lt zero32 (round binary32 false k 1) ≡ true
product_above k h =
    above_zero (round binary32 false k 1)
    (above_of_le one (round binary32 false k 1) tt
    (subst (λ (z : Float). T (le z (round binary32 false k 1))) one_is (round_mono binary32 1 1 k 1 (zero-lt-suc 0) (zero-lt-suc 0) (omega arith))))

pub opposite : (x y : Float) (p q : ℤ) → Is x p → Is y q → lt zero32 (mul binary32 x y) ≡ false → Opposite p q
opposite x y p q h k m =
    record {
      no_left = λ l r.
          let a = sign_left h.sign h.size (subst (λ (z : ℤ). T (lt_z (pos 0) z)) (sym h.is) l) in
          let b = sign_left k.sign k.size (subst (λ (z : ℤ). T (lt_z (pos 0) z)) (sym k.is) r) in
          clash h.sign k.sign (ap (λ (z : Bool). unlike z k.sign) a.0 ∙ ap (λ (z : Bool). unlike false z) b.0) (mul-pos a.1 b.1);
      no_right = λ l r.
          let a = sign_right h.sign h.size (subst (λ (z : ℤ). T (lt_z z (pos 0))) (sym h.is) l) in
          let b = sign_right k.sign k.size (subst (λ (z : ℤ). T (lt_z z (pos 0))) (sym k.is) r) in
          clash h.sign k.sign (ap (λ (z : Bool). unlike z k.sign) a.0 ∙ ap (λ (z : Bool). unlike true z) b.0) (mul-pos a.1 b.1);
    }
  where
    clash : (s t : Bool) → unlike h.sign k.sign ≡ false → 0 < h.size * k.size → ⊥
    clash s t e g =
        true≢false
        (sym (product_above (h.size * k.size) g)
        ∙ sym (ap (λ (z : Float). lt zero32 z) (mul_of x y h.sign k.sign h.size k.size 1 (zero-lt-suc 0) h.value k.value ∙ ap (λ (z : Bool). round binary32 z (h.size * k.size) 1) e))
        ∙ m)

-- ---- two offsets that are not equal are not both zero
zeros_level : (s t : Bool) → level s 0 t 0 ≡ true
zeros_level true true = refl
zeros_level true false = refl
zeros_level false true = refl
zeros_level false false = refl

zeros_at : (s : Bool) (m : ℕ) (e : ℤ) (t : Bool) (n : ℕ) (d : ℤ) → m * up e ≡ 0 → n * up d ≡ 0 → eq (fin s m e) (fin t n d) ≡ true
unfolding eq
zeros_at s m e t n d p q =
    ap (λ (z : ℕ). level s z t (n * up d * down e)) (ap (λ (z : ℕ). z * down d) p ∙ zero-mul (down d))
    ∙ ap (λ (z : ℕ). level s 0 t z) (ap (λ (z : ℕ). z * down e) q ∙ zero-mul (down e))
    ∙ zeros_level s t

zeros_equal : (x y : Float) (s t : Bool) → HasValue x s 0 1 → HasValue y t 0 1 → eq x y ≡ true
zeros_equal x y s t h k =
    let v = open_value x s 0 h in
    let w = open_value y t 0 k in
    ap (λ (z : Float). eq z y) v.2
    ∙ ap (λ (z : Float). eq (fin s v.0 v.1) z) w.2
    ∙ zeros_at s v.0 v.1 t w.0 w.1 (v.3 ∙ zero-mul (down v.1)) (w.3 ∙ zero-mul (down w.1))

size_from : (x : Float) (p : ℤ) (h : Is x p) → h.size ≡ nat_abs p
size_from x p h = sym (size_of h.sign h.size) ∙ ap nat_abs h.is

first : (a b : ℕ) → a + b ≡ 0 → a ≡ 0
first a b h = omega arith

second : (a b : ℕ) → a + b ≡ 0 → b ≡ 0
second a b h = omega arith

not_both : (x y : Float) (p q : ℤ) → Is x p → Is y q → eq x y ≡ false → 0 < nat_abs p + nat_abs q
not_both x y p q h k e = elim (eq-zero-or-pos (nat_abs p + nat_abs q)) [
  | inl z ↦
      let hp : h.size ≡ 0 = size_from x p h ∙ first (nat_abs p) (nat_abs q) z in
      let kq : k.size ≡ 0 = size_from y q k ∙ second (nat_abs p) (nat_abs q) z in
      absurd (true≢false
      (sym (zeros_equal x y h.sign k.sign (subst (λ (n : ℕ). HasValue x h.sign n 1) hp h.value) (subst (λ (n : ℕ). HasValue y k.sign n 1) kq k.value)) ∙ e))
  | inr l ↦ l
]

-- ---- a value from 0 to 1 is not clamped
in_order : (a b : ℕ) → T (ltb a b || (eqb a b && true)) → ltb b a ≡ false
in_order a b h = is_false (ltb b a) (le→nltb b a (go (ltb a b) (eqb a b) (ltb→lt a b) (eqb→eq a b) h))
  where
    go : (x y : Bool) → (T x → a < b) → (T y → a ≡ b) → T (x || (y && true)) → a ≤ b
    go true y p q t = le_of_lt (p tt)
    go false true p q t = le_of_eq (q tt)
    go false false p q t = absurd t

high_enough : (r : Float) (u c : ℕ) → HasValue r false u c → lt r zero32 ≡ false
unfolding lt
high_enough nan u c h = absurd h
high_enough (inf s) u c h = absurd h
high_enough (fin true m e) u c h = absurd (true≢false h.0)
high_enough (fin false m e) u c h = is_false (ltb (m * up e * 1) (0 * down e)) (le→nltb (m * up e * 1) (0 * down e) (subst (λ (z : ℕ). z ≤ m * up e * 1) (sym (zero-mul (down e))) zero-le))

low_enough : (r : Float) (u c : ℕ) → HasValue r false u c → T (le r one) → lt one r ≡ false
unfolding le lt
low_enough nan u c h l = absurd h
low_enough (inf s) u c h l = absurd h
low_enough (fin true m e) u c h l = absurd (true≢false h.0)
low_enough (fin false m e) u c h l = in_order (m * up e * 1) (1 * down e) l

zero_low : (s : Bool) (m : ℕ) (e : ℤ) → m * up e ≡ 0 → lt one (fin s m e) ≡ false
unfolding lt
zero_low true m e h = refl
zero_low false m e h = is_false (ltb (1 * down e) (m * up e * 1)) (le→nltb (1 * down e) (m * up e * 1) (subst (λ (z : ℕ). z ≤ 1 * down e) (sym (ap (λ (z : ℕ). z * 1) h)) zero-le))

stays : (r : Float) → lt r zero32 ≡ false → lt one r ≡ false → clamp_high (clamp_low r) ≡ r
stays r p q = ap (λ (z : Bool). clamp_high (cond z zero32 r)) p ∙ ap (λ (z : Bool). cond z one r) q

zero_is : (s : Bool) → signed s 0 ≡ pos 0
zero_is true = refl
zero_is false = refl

wider : (x : Float) (s : Bool) → HasValue x s 0 1 → HasValue x s 0 (2 ^ 149)
wider nan s h = absurd h
wider (inf t) s h = absurd h
wider (fin t m e) s h = (h.0, ap (λ (z : ℕ). z * 2 ^ 149) (sym (mul-one (m * up e)) ∙ h.1 ∙ zero-mul (down e)) ∙ sym (zero-mul (down e)))

-- ---- the fraction
zero_over : (s : Bool) (b : ℕ) → 0 < b → Near (clamp_high (clamp_low (round binary32 s 0 b))) 0 b
zero_over s b p =
    let r = round binary32 s 0 b in
    let h : HasValue r s 0 1 = subst (λ (z : ℕ). HasValue (round binary32 s z b) s 0 1) (zero-mul b) (round_at s 0 b p zero-le) in
    let v = open_value r s 0 h in
    let lo : lt r zero32 ≡ false = is_right r (pos 0) record { sign = s; size = 0; value = h; is = zero_is s } in
    let hi : lt one r ≡ false = ap (λ (z : Float). lt one z) v.2 ∙ zero_low s v.0 v.1 (v.3 ∙ zero-mul (down v.1)) in
    subst (λ (z : Float). Near z 0 b) (sym (stays r lo hi))
    record {
      divides = p;
      sign = s;
      units = 0;
      value = wider r s h;
      only_zero = λ t. refl;
      at_most = le_trans (le_of_eq (zero-mul b)) zero-le;
      at_least = le_trans (le_of_eq (zero-mul (2 ^ 149))) zero-le;
    }

some_over : (a b : ℕ) → 0 < b → a ≤ b → Near (clamp_high (clamp_low (round binary32 false a b))) a b
some_over a b p h =
    let r = round binary32 false a b in
    let n = near a b p h in
    let u = close a b p h in
    let l : T (le r one) = subst (λ (z : Float). T (le r z)) one_is (round_mono binary32 a b 1 1 p (zero-lt-suc 0) (omega arith)) in
    subst (λ (z : Float). Near z a b) (sym (stays r (high_enough r u.0 (2 ^ 149) u.1) (low_enough r u.0 (2 ^ 149) u.1 l))) n

pub fraction_near : (x y : Float) (p q : ℤ) → Is x p → Is y q → nat_abs (p -ℤ q) ≤ 2 ^ 24 → lt zero32 (mul binary32 x y) ≡ false → eq x y ≡ false
    → Near (clamp_high (clamp_low (div binary32 x (sub binary32 x y)))) (nat_abs p) (nat_abs p + nat_abs q)
fraction_near x y p q h k l m e =
    let o = opposite x y p q h k m in
    let D = sub_is x y p q h k l in
    let a_is : h.size ≡ nat_abs p = size_from x p h in
    let b_is : D.size ≡ nat_abs p + nat_abs q = size_from (sub binary32 x y) (p -ℤ q) D ∙ apart p q o in
    let b_pos : 0 < D.size = subst (λ (z : ℕ). 0 < z) (sym b_is) (not_both x y p q h k e) in
    let le : h.size ≤ D.size = le_trans (le_of_eq a_is) (le_trans (le-add_right (nat_abs p) (nat_abs q)) (le_of_eq (sym b_is))) in
    let r : div binary32 x (sub binary32 x y) ≡ round binary32 (unlike h.sign D.sign) h.size D.size = div_of x (sub binary32 x y) h.sign D.sign h.size D.size 1 (zero-lt-suc 0) h.value D.value b_pos in
    subst (λ (z : Float). Near (clamp_high (clamp_low z)) (nat_abs p) (nat_abs p + nat_abs q)) (sym r)
    (subst (λ (z : ℕ). Near (clamp_high (clamp_low (round binary32 (unlike h.sign D.sign) h.size D.size))) (nat_abs p) z) b_is
    (subst (λ (z : ℕ). Near (clamp_high (clamp_low (round binary32 (unlike h.sign D.sign) h.size D.size))) z D.size) a_is
    (elim (quotient_sign p q o h.sign D.sign h.size D.size h.is D.is) [
      | inl f ↦ subst (λ (z : Bool). Near (clamp_high (clamp_low (round binary32 z h.size D.size))) h.size D.size) (sym f) (some_over h.size D.size b_pos le)
      | inr z ↦ subst (λ (n : ℕ). Near (clamp_high (clamp_low (round binary32 (unlike h.sign D.sign) n D.size))) n D.size) (sym z) (zero_over (unlike h.sign D.sign) D.size b_pos)
    ])))
