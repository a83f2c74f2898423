-- On whole points a hit of the line drawn the other way carries the same fraction and the same point, as numbers: a zero among them may have the other sign. Assumes nothing.
use mathlib.Core.Path.{◌≡◌, refl, sym, ◌∙◌, ap, ap₂, subst}
use mathlib.Core.Bool.{Bool, true, false, not, ◌||◌, cond}
use mathlib.Core.Logic.{◌⊎◌, inl, inr, ⊎_elim}
use Prim.Native.Nat.{ℕ, zero, suc, ◌+◌, ◌*◌, ◌^◌, ◌<◌, ◌≤◌}
use native.Mathlib.Nat.{le_trans, mul-pos, zero-mul}
use native.Mathlib.Omega.{arith}
use borrow.Author.Tests.{ne_eqb}
use lib.Dec.{T, eqb}
use lib.IntN.{ℤ, pos, negsuc, neg_ℤ, nat_abs, ◌-ℤ◌, +ℤ_idr, neg_ℤ-+ℤ, neg_ℤ-neg_ℤ, zero-*ℤ, *ℤ_comm, pos-ne-negsuc}
use lib.Signed.{lt_z}
use lib.Ieee.{Float, nan, inf, fin, binary32, fits, unlike, up, down, round, neg, div}
use lib.Ieee.Exact.{HasValue}
use lib.Ieee.Fits.{up_pos, down_pos, neg-fits, add-fits, sub-fits}
use Rattle.lists.specs.Lists.{pick}
use Rattle.float.specs.Numbers.{zero32, one, plus, minus, times, over}
use Rattle.float.specs.Whole.{signed, Is}
use Rattle.float.proofs.Exact.{size_of, round_at, open_value, neg_is, add_is, sub_is, mul_is}
use Rattle.float.proofs.Values.{same_value}
use Rattle.blade.specs.declared.Point.{Point}
use Rattle.blade.specs.Points.{minus_of}
use Rattle.blade.specs.Blade.{offset_of, clamp_low, clamp_high, hit_point}
use Rattle.blade.proofs.Sides.{abs_minus, is_right}
use Rattle.exact.specs.Exact.{whole_of, whole?, whole_point_of, side_by, differ}
use Rattle.exact.proofs.Compare.{is_less, is_equal}
use Rattle.exact.proofs.Order.{less_above, less_below}
use Rattle.exact.proofs.Wholes.{whole_is}
use Rattle.exact.proofs.Exactly.{side_is}
use Rattle.exact.proofs.Swapped.{side_other}
use Rattle.model.specs.Swaps.{plain, plain_point}
use Rattle.model_laws.proofs.Laws.{false_true}
use Rattle.lists.proofs.Sifts.{and_true}

-- ---- floats that are one whole number

zero_is : Is zero32 (pos 0)
zero_is = record { sign = false; size = 0; value = (refl, refl); is = refl }

one_is : Is one (pos 1)
one_is = record { sign = false; size = 1; value = (refl, refl); is = refl }

-- a zero
zero_plain : (x : Float) → Is x (pos 0) → plain x ≡ zero32
zero_plain x h = ap (λ (b : Bool). pick b zero32 x) (is_equal x zero32 (pos 0) h zero_is)

zeros : (s : Bool) → signed s 0 ≡ pos 0
zeros false = refl
zeros true = refl

-- one number with two signs is 0
signs_agree : (s t : Bool) (n m : ℕ) → signed s n ≡ signed t m → (n ≡ m) × ((s ≡ t) ⊎ (n ≡ 0))
signs_agree s t n m e = (size, by s t n (e ∙ ap (signed t) (sym size)))
  where
    size : n ≡ m
    size = sym (size_of s n) ∙ ap nat_abs e ∙ size_of t m

    by : (s t : Bool) (n : ℕ) → signed s n ≡ signed t n → (s ≡ t) ⊎ (n ≡ 0)
    by false false n d = inl refl
    by true true n d = inl refl
    by false true zero d = inr refl
    by true false zero d = inr refl
    by false true (suc n) d = absurd (pos-ne-negsuc (suc n) n d)
    by true false (suc n) d = absurd (pos-ne-negsuc (suc n) n (sym d))

-- two f32 that are one number are one value, or both zero
one_number : (x y : Float) (z : ℤ) → T (fits binary32 x) → T (fits binary32 y) → Is x z → Is y z → (x ≡ y) ⊎ (z ≡ pos 0)
one_number x y z p q h k =
    let a = signs_agree h.sign k.sign h.size k.size (h.is ∙ sym k.is) in
    let v = subst (λ (n : ℕ). HasValue y k.sign n 1) (sym a.0) k.value in
    ⊎_elim (λ s. inl (same_value binary32 x y h.sign h.size 1 (omega arith) p q h.value (subst (λ (t : Bool). HasValue y t h.size 1) (sym s) v)))
    (λ n. inr (sym h.is ∙ ap (signed h.sign) n ∙ zeros h.sign))
    a.1

-- so they are the same without the sign of zero
number_plain : (x y : Float) (z : ℤ) → T (fits binary32 x) → T (fits binary32 y) → Is x z → Is y z → plain x ≡ plain y
number_plain x y z p q h k =
    ⊎_elim (λ e. ap plain e) (λ e. zero_plain x (subst (Is x) e h) ∙ sym (zero_plain y (subst (Is y) e k))) (one_number x y z p q h k)

-- ---- quotients

unlike_both : (s t : Bool) → unlike (not s) (not t) ≡ unlike s t
unlike_both true true = refl
unlike_both true false = refl
unlike_both false true = refl
unlike_both false false = refl

-- both signs turned
over_neg : (x y : Float) → over (neg x) (neg y) ≡ over x y
unfolding neg div
over_neg nan y = refl
over_neg (inf s) nan = refl
over_neg (inf s) (inf t) = refl
over_neg (inf s) (fin t n d) = ap inf (unlike_both s t)
over_neg (fin s m e) nan = refl
over_neg (fin s m e) (inf t) = ap (λ (b : Bool). fin b 0 (pos 0)) (unlike_both s t)
over_neg (fin s m e) (fin t n d) =
    ap (λ (b : Bool). cond (eqb n 0) (cond (eqb m 0) nan (inf b)) (round binary32 b (m * up e * down d) (n * up d * down e))) (unlike_both s t)

div_fin : (s : Bool) (m : ℕ) (e : ℤ) (t : Bool) (n : ℕ) (d : ℤ) → eqb n 0 ≡ false → over (fin s m e) (fin t n d) ≡ round binary32 (unlike s t) (m * up e * down d) (n * up d * down e)
unfolding div
div_fin s m e t n d h = ap (λ (b : Bool). cond b (cond (eqb m 0) nan (inf (unlike s t))) (round binary32 (unlike s t) (m * up e * down d) (n * up d * down e))) h

-- zero over a number that is not
zero_over : (x y : Float) (z : ℤ) → Is x (pos 0) → Is y z → (z ≡ pos 0 → ⊥) → Is (over x y) (pos 0)
zero_over x y z h k ne =
    let v = open_value x h.sign h.size h.value in
    let w = open_value y k.sign k.size k.value in
    let none : h.size ≡ 0 = sym (size_of h.sign h.size) ∙ ap nat_abs h.is in
    let m = v.0 in
    let e = v.1 in
    let n = w.0 in
    let d = w.1 in
    let s = unlike h.sign k.sign in
    let some : (n ≡ 0) → ⊥ = λ u. ne (sym k.is ∙ ap (signed k.sign) (sizeless k.size (down d) (down_pos d) (sym w.3 ∙ ap (λ (i : ℕ). i * up d) u ∙ zero-mul (up d))) ∙ zeros k.sign) in
    let C = n * up d * down e in
    let positive : 0 < C = mul-pos (mul-pos (above n some) (up_pos d)) (down_pos e) in
    let flat : m * up e * down d ≡ 0 * C = ap (λ (i : ℕ). i * down d) (v.3 ∙ ap (λ (i : ℕ). i * down e) none ∙ zero-mul (down e)) ∙ zero-mul (down d) ∙ sym (zero-mul C) in
    let r : over x y ≡ round binary32 s (0 * C) C =
    ap₂ {C = Float} (λ (f g : Float). over f g) v.2 w.2 ∙ div_fin h.sign m e k.sign n d (ne_eqb n 0 some) ∙ ap (λ (i : ℕ). round binary32 s i C) flat in
    subst (λ (f : Float). Is f (pos 0)) (sym r) (record { sign = s; size = 0; value = round_at s 0 C positive (omega arith); is = zeros s })
  where
    above : (n : ℕ) → (n ≡ 0 → ⊥) → 0 < n
    above zero u = absurd (u refl)
    above (suc n) u = omega arith

    sizeless : (a b : ℕ) → 0 < b → a * b ≡ 0 → a ≡ 0
    sizeless zero b u p = refl
    sizeless (suc a) b u p = absurd (let w : 0 < suc a * b = mul-pos (omega arith) u in omega (arith, w, p))

-- ---- a hit

zero_or : (z : ℤ) → (z ≡ pos 0) ⊎ (z ≡ pos 0 → ⊥)
zero_or (pos zero) = inl refl
zero_or (pos (suc n)) = inr (λ e. let u : suc n ≡ 0 = ap nat_abs e in omega (arith, u))
zero_or (negsuc n) = inr (λ e. let u : suc n ≡ 0 = ap nat_abs e in omega (arith, u))

-- a whole start, and no way along a whole length
at_start : (x y t : Float) → whole? x ≡ true → whole? y ≡ true → Is t (pos 0) → Is (plus x (times (minus y x) t)) (whole_of x)
at_start x y t hx hy ht =
    let X = whole_is x hx in
    let Y = whole_is y hy in
    let n = whole_of x in
    let w = whole_of y -ℤ n in
    let far : nat_abs w ≤ 1024 + 1024 = abs_minus (whole_of y) n 1024 1024 Y.1 X.1 in
    let way : Is (minus y x) w = sub_is y x (whole_of y) n Y.0 X.0 (le_trans far (omega arith)) in
    let gone : Is (times (minus y x) t) (pos 0) = subst (Is (times (minus y x) t)) (*ℤ_comm w (pos 0) ∙ zero-*ℤ w) (mul_is (minus y x) t w (pos 0) way ht (small (nat_abs w))) in
    subst (Is (plus x (times (minus y x) t))) (+ℤ_idr n) (add_is x (times (minus y x) t) n (pos 0) X.0 gone (le_trans (subst (λ (z : ℤ). nat_abs z ≤ 1024) (sym (+ℤ_idr n)) X.1) (omega arith)))
  where
    small : (n : ℕ) → n * 0 ≤ 2 ^ 24
    small n = omega arith

-- a zero is in the range from 0 to 1 already
clamp_zero : (t : Float) → Is t (pos 0) → Is (clamp_high (clamp_low t)) (pos 0)
clamp_zero t h =
    let low : clamp_low t ≡ t = ap (λ (b : Bool). cond b zero32 t) (is_right t (pos 0) h) in
    let high : clamp_high t ≡ t = ap (λ (b : Bool). cond b one t) (is_less one t (pos 1) (pos 0) one_is h) in
    subst (λ (f : Float). Is f (pos 0)) (sym (ap clamp_high low ∙ high)) h

-- what a hit carries: its fraction and its point, with zeros without signs
abbrev pub carries : Point → Point → Float → Point × Float
carries p q t = (plain_point (hit_point p (minus_of q p) t), plain t)

module _ (b0 b1 p q : Point) (h0 : whole_point_of b0 ≡ true) (h1 : whole_point_of b1 ≡ true) (hp : whole_point_of p ≡ true) (hq : whole_point_of q ≡ true) (apart : differ (side_by b0 b1 p) (side_by b0 b1 q) ≡ true) where
  -- the offsets of p and q, there and back
  abbrev dp : Float
  dp = offset_of b0 b1 p

  abbrev dq : Float
  dq = offset_of b0 b1 q

  abbrev dp' : Float
  dp' = offset_of b1 b0 p

  abbrev dq' : Float
  dq' = offset_of b1 b0 q

  abbrev a : ℤ
  a = side_by b0 b1 p

  abbrev b : ℤ
  b = side_by b0 b1 q

  apart_not : (a -ℤ b) ≡ pos 0 → ⊥
  apart_not e =
      false_true
      (sym (ap₂ {C = Bool} (λ (x y : Bool). x || y) (less_below a b ∙ ap (λ (z : ℤ). lt_z z (pos 0)) e) (less_above b a ∙ ap (λ (z : ℤ). lt_z (pos 0) z) e)) ∙ apart)

  neg_not : (z : ℤ) → (z ≡ pos 0 → ⊥) → neg_ℤ z ≡ pos 0 → ⊥
  neg_not z n e = n (sym (neg_ℤ-neg_ℤ z) ∙ ap neg_ℤ e)

  back_is : (v : Point) → whole_point_of v ≡ true → Is (offset_of b1 b0 v) (neg_ℤ (side_by b0 b1 v))
  back_is v h = subst (Is (offset_of b1 b0 v)) (side_other b0 b1 v) (side_is b1 b0 v h1 h0 h).0

  -- the difference of the offsets
  there_is : Is (minus dp dq) (a -ℤ b)
  there_is =
      let P = side_is b0 b1 p h0 h1 hp in
      let Q = side_is b0 b1 q h0 h1 hq in
      sub_is dp dq a b P.0 Q.0 (le_trans (abs_minus a b (2 ^ 23) (2 ^ 23) P.1 Q.1) (omega arith))

  turned_is : Is (minus dp' dq') (neg_ℤ (a -ℤ b))
  turned_is =
      let P = side_is b1 b0 p h1 h0 hp in
      let Q = side_is b1 b0 q h1 h0 hq in
      let e : side_by b1 b0 p -ℤ side_by b1 b0 q ≡ neg_ℤ (a -ℤ b) = ap₂ {C = ℤ} (λ (x y : ℤ). x -ℤ y) (side_other b0 b1 p) (side_other b0 b1 q) ∙ sym (neg_ℤ-+ℤ a (neg_ℤ b)) in
      subst (Is (minus dp' dq')) e
      (sub_is dp' dq' (side_by b1 b0 p) (side_by b1 b0 q) P.0 Q.0 (le_trans (abs_minus (side_by b1 b0 p) (side_by b1 b0 q) (2 ^ 23) (2 ^ 23) P.1 Q.1) (omega arith)))

  turned_difference : minus dp' dq' ≡ neg (minus dp dq)
  turned_difference =
      ⊎_elim (λ e. e) (λ e. absurd (neg_not (a -ℤ b) apart_not e))
      (one_number (minus dp' dq') (neg (minus dp dq)) (neg_ℤ (a -ℤ b)) (sub-fits binary32 dp' dq') (neg-fits binary32 (minus dp dq) (sub-fits binary32 dp dq)) turned_is (neg_is (minus dp dq) (a -ℤ b) there_is))

  -- p off the line: the quotient is the same
  off_line : (a ≡ pos 0 → ⊥) → over dp' (minus dp' dq') ≡ over dp (minus dp dq)
  off_line n =
      let e : dp' ≡ neg dp =
      ⊎_elim (λ e. e) (λ e. absurd (neg_not a n e))
      (one_number dp' (neg dp) (neg_ℤ a) (add-fits binary32 _ _) (neg-fits binary32 dp (add-fits binary32 _ _)) (back_is p hp) (neg_is dp a (side_is b0 b1 p h0 h1 hp).0)) in
      ap₂ {C = Float} (λ (x y : Float). over x y) e turned_difference ∙ over_neg dp (minus dp dq)

  -- p on the line: the fraction is zero, and the point is p
  at_zero : (t t' : Float) → Is t (pos 0) → Is t' (pos 0) → carries p q t' ≡ carries p q t
  at_zero t t' h k =
      let P = and_true (whole? p.x) (whole? p.y) hp in
      let Q = and_true (whole? q.x) (whole? q.y) hq in
      let x = number_plain _ _ (whole_of p.x) (add-fits binary32 p.x _) (add-fits binary32 p.x _) (at_start p.x q.x t' P.0 Q.0 k) (at_start p.x q.x t P.0 Q.0 h) in
      let y = number_plain _ _ (whole_of p.y) (add-fits binary32 p.y _) (add-fits binary32 p.y _) (at_start p.y q.y t' P.1 Q.1 k) (at_start p.y q.y t P.1 Q.1 h) in
      let xy : plain_point (hit_point p (minus_of q p) t') ≡ plain_point (hit_point p (minus_of q p) t) = ap₂ {C = Point} (λ (i j : Float). record { x = i; y = j }) x y in
      ap₂ {C = Point × Float} (λ (i : Point) (j : Float). (i, j)) xy (zero_plain t' k ∙ sym (zero_plain t h))

  -- the line drawn the other way: the same fraction and the same point, but for the signs of zeros
  pub hit_turned : carries p q (clamp_high (clamp_low (over dp' (minus dp' dq')))) ≡ carries p q (clamp_high (clamp_low (over dp (minus dp dq))))
  hit_turned =
      ⊎_elim
      (λ e.
      at_zero (clamp_high (clamp_low (over dp (minus dp dq)))) (clamp_high (clamp_low (over dp' (minus dp' dq'))))
      (clamp_zero (over dp (minus dp dq)) (zero_over dp (minus dp dq) (a -ℤ b) (subst (Is dp) e (side_is b0 b1 p h0 h1 hp).0) there_is apart_not))
      (clamp_zero (over dp' (minus dp' dq')) (zero_over dp' (minus dp' dq') (neg_ℤ (a -ℤ b)) (subst (λ (z : ℤ). Is dp' (neg_ℤ z)) e (back_is p hp)) turned_is (neg_not (a -ℤ b) apart_not))))
      (λ n. ap (λ (x : Float). carries p q (clamp_high (clamp_low x))) (off_line n))
      (zero_or a)
