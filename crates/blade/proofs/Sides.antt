-- With whole coordinates from -1024 to 1024 the offsets of the blade test are exact, and their signs are the true sides. Assumes nothing.
use mathlib.Core.Path.{◌≡◌, refl, sym, ap, ◌∙◌, subst}
use Prim.Native.Nat.{ℕ, zero, suc, ◌+◌, ◌-◌, ◌*◌, ◌^◌, ◌≤◌, ◌<◌, zero-le}
use native.Mathlib.Nat.{le_refl, le_trans, le_of_eq, mul-le-mul, zero-mul, mul-one, add-zero, mul-pos, zero-lt-suc}
use native.Mathlib.Omega.{arith}
use mathlib.Core.Bool.{Bool, true, false, cond}
use lib.IntN.{ℤ, pos, negsuc, neg_ℤ, nat_abs, ◌+ℤ◌, ◌-ℤ◌, ◌*ℤ◌, +ℤ_comm, neg_ℤ-neg_ℤ, sub_ℕ}
use lib.Signed.{lt_z}
use lib.Dec.{T, ltb, ltb→lt, lt→ltb}
use lib.Arith.{le→nltb}
use lib.Ieee.Fits.{down_pos}
use lib.Ieee.Bits.{is_true, is_false}
use lib.Ieee.{Float, fin, binary32, up, down, neg, mul, lt}
use Rattle.blade.specs.declared.Point.{Point}
use Rattle.float.specs.Numbers.{zero32}
use Rattle.blade.specs.Points.{minus_of}
use Rattle.blade.specs.Blade.{offset_along, offset_of}
use Rattle.float.specs.Whole.{signed, Is}
use Rattle.blade.specs.Whole.{IsPoint, side_of}
use Rattle.float.proofs.Exact.{open_value, neg_is, add_is, sub_is, mul_is}

-- ---- sizes of whole numbers
pub abs_neg : (a : ℤ) → nat_abs (neg_ℤ a) ≡ nat_abs a
abs_neg (pos zero) = refl
abs_neg (pos (suc n)) = refl
abs_neg (negsuc n) = refl

abs_sub : (a b : ℕ) → nat_abs (sub_ℕ a b) ≤ a + b
abs_sub a b = go (ltb a b) (ltb→lt a b)
  where
    go : (t : Bool) → (T t → a < b) → nat_abs (cond t (negsuc (b - suc a)) (pos (a - b))) ≤ a + b
    go true h = let l : a < b = h tt in omega arith
    go false h = omega arith

pub abs_add : (a b : ℤ) → nat_abs (a +ℤ b) ≤ nat_abs a + nat_abs b
abs_add (pos a) (pos b) = le_refl (a + b)
abs_add (pos a) (negsuc b) = abs_sub a (suc b)
abs_add (negsuc a) (pos b) = le_trans (abs_sub b (suc a)) (omega arith)
abs_add (negsuc a) (negsuc b) = omega arith

pub abs_mul : (a b : ℤ) → nat_abs (a *ℤ b) ≡ nat_abs a * nat_abs b
abs_mul (pos a) (pos b) = refl
abs_mul (pos a) (negsuc b) = abs_neg (pos (a * suc b))
abs_mul (negsuc a) (pos b) = abs_neg (pos (suc a * b))
abs_mul (negsuc a) (negsuc b) = refl

pub abs_minus : (a b : ℤ) (m n : ℕ) → nat_abs a ≤ m → nat_abs b ≤ n → nat_abs (a -ℤ b) ≤ m + n
abs_minus a b m n h k =
    let p : nat_abs (a +ℤ neg_ℤ b) ≤ nat_abs a + nat_abs (neg_ℤ b) = abs_add a (neg_ℤ b) in
    let q : nat_abs (neg_ℤ b) ≡ nat_abs b = abs_neg b in
    omega arith

pub neg_mul : (a b : ℤ) → neg_ℤ a *ℤ b ≡ neg_ℤ (a *ℤ b)
neg_mul (pos zero) (pos b) = ap pos (zero-mul b) ∙ sym (ap (λ (z : ℕ). neg_ℤ (pos z)) (zero-mul b))
neg_mul (pos (suc a)) (pos b) = refl
neg_mul (pos zero) (negsuc b) = ap (λ (z : ℕ). neg_ℤ (pos z)) (zero-mul (suc b)) ∙ sym (ap (λ (z : ℕ). neg_ℤ (neg_ℤ (pos z))) (zero-mul (suc b)))
neg_mul (pos (suc a)) (negsuc b) = sym (neg_ℤ-neg_ℤ (pos (suc a * suc b)))
neg_mul (negsuc a) (pos b) = sym (neg_ℤ-neg_ℤ (pos (suc a * b)))
neg_mul (negsuc a) (negsuc b) = refl

-- ---- the offset
pub offset_is : (b0 b1 v : Point) (x0 y0 x1 y1 x y : ℤ) → IsPoint b0 x0 y0 → IsPoint b1 x1 y1 → IsPoint v x y
    → Is (offset_along (minus_of b1 b0) b0 v) (side_of x0 y0 x1 y1 x y) × (nat_abs (side_of x0 y0 x1 y1 x y) ≤ 2 ^ 23)
offset_is b0 b1 v x0 y0 x1 y1 x y p0 p1 pv =
    let dx : nat_abs (x1 -ℤ x0) ≤ 2048 = abs_minus x1 x0 1024 1024 p1.x_in p0.x_in in
    let dy : nat_abs (y1 -ℤ y0) ≤ 2048 = abs_minus y1 y0 1024 1024 p1.y_in p0.y_in in
    let vx : nat_abs (x -ℤ x0) ≤ 2048 = abs_minus x x0 1024 1024 pv.x_in p0.x_in in
    let vy : nat_abs (y -ℤ y0) ≤ 2048 = abs_minus y y0 1024 1024 pv.y_in p0.y_in in
    let ndy : nat_abs (neg_ℤ (y1 -ℤ y0)) ≤ 2048 = le_trans (le_of_eq (abs_neg (y1 -ℤ y0))) dy in
    let A = neg_ℤ (y1 -ℤ y0) *ℤ (x -ℤ x0) in
    let B = (x1 -ℤ x0) *ℤ (y -ℤ y0) in
    let a_in : nat_abs A ≤ 2 ^ 22 = le_trans (le_of_eq (abs_mul (neg_ℤ (y1 -ℤ y0)) (x -ℤ x0))) (mul-le-mul ndy vx) in
    let b_in : nat_abs B ≤ 2 ^ 22 = le_trans (le_of_eq (abs_mul (x1 -ℤ x0) (y -ℤ y0))) (mul-le-mul dx vy) in
    let c_in : nat_abs (A +ℤ B) ≤ 2 ^ 23 = le_trans (abs_add A B) (omega arith) in
    let small : (n : ℕ) → n ≤ 2048 → n ≤ 2 ^ 24 = λ n h. omega arith in
    let dx_is = sub_is b1.x b0.x x1 x0 p1.x_is p0.x_is (small (nat_abs (x1 -ℤ x0)) dx) in
    let dy_is = sub_is b1.y b0.y y1 y0 p1.y_is p0.y_is (small (nat_abs (y1 -ℤ y0)) dy) in
    let vx_is = sub_is v.x b0.x x x0 pv.x_is p0.x_is (small (nat_abs (x -ℤ x0)) vx) in
    let vy_is = sub_is v.y b0.y y y0 pv.y_is p0.y_is (small (nat_abs (y -ℤ y0)) vy) in
    let d = minus_of b1 b0 in
    let w = minus_of v b0 in
    let a_is = mul_is (neg d.y) w.x (neg_ℤ (y1 -ℤ y0)) (x -ℤ x0) (neg_is d.y (y1 -ℤ y0) dy_is) vx_is (le_trans (mul-le-mul ndy vx) (omega arith)) in
    let b_is = mul_is d.x w.y (x1 -ℤ x0) (y -ℤ y0) dx_is vy_is (le_trans (mul-le-mul dx vy) (omega arith)) in
    let s = add_is (mul binary32 (neg d.y) w.x) (mul binary32 d.x w.y) A B a_is b_is (le_trans c_in (omega arith)) in
    let e : A +ℤ B ≡ side_of x0 y0 x1 y1 x y = +ℤ_comm A B ∙ ap (λ (i : ℤ). B +ℤ i) (neg_mul (y1 -ℤ y0) (x -ℤ x0)) in
    (subst (λ (i : ℤ). Is (offset_along d b0 v) i) e s, subst (λ (i : ℤ). nat_abs i ≤ 2 ^ 23) e c_in)

-- ---- the sign of a whole number, and of the float that is it
above_test : (n d : ℕ) → 0 < d → ltb 0 (n * d) ≡ ltb 0 n
above_test zero d h = ap (λ (z : ℕ). ltb 0 z) (zero-mul d)
above_test (suc n) d h = is_true (ltb 0 (suc n * d)) (lt→ltb 0 (suc n * d) (mul-pos (zero-lt-suc n) h)) ∙ sym (is_true (ltb 0 (suc n)) (lt→ltb 0 (suc n) (zero-lt-suc n)))

below_test : (n : ℕ) → ltb n 0 ≡ false
below_test n = is_false (ltb n 0) (le→nltb n 0 zero-le)

left_at : (s : Bool) (m : ℕ) (e : ℤ) (n : ℕ) → m * up e ≡ n * down e → lt zero32 (fin s m e) ≡ lt_z (pos 0) (signed s n)
unfolding lt
left_at false m e n h = ap (λ (z : ℕ). ltb z (m * up e * 1)) (zero-mul (down e)) ∙ ap (λ (z : ℕ). ltb 0 z) (mul-one (m * up e) ∙ h) ∙ above_test n (down e) (down_pos e)
left_at true m e zero h = refl
left_at true m e (suc n) h = refl

right_at : (s : Bool) (m : ℕ) (e : ℤ) (n : ℕ) → m * up e ≡ n * down e → lt (fin s m e) zero32 ≡ lt_z (signed s n) (pos 0)
unfolding lt
right_at false m e n h = ap (λ (z : ℕ). ltb (m * up e * 1) z) (zero-mul (down e)) ∙ below_test (m * up e * 1) ∙ sym (below_test n)
right_at true m e n h =
    ap (λ (z : ℕ). ltb 0 (m * up e * 1 + z)) (zero-mul (down e)) ∙ ap (λ (z : ℕ). ltb 0 z) (add-zero (m * up e * 1) ∙ mul-one (m * up e) ∙ h) ∙ above_test n (down e) (down_pos e) ∙ last n
  where
    last : (n : ℕ) → ltb 0 n ≡ lt_z (neg_ℤ (pos n)) (pos 0)
    last zero = refl
    last (suc n) = is_true (ltb 0 (suc n)) (lt→ltb 0 (suc n) (zero-lt-suc n))

-- to the left of the blade, as the float says and as it is
pub is_left : (x : Float) (z : ℤ) → Is x z → lt zero32 x ≡ lt_z (pos 0) z
is_left x z h =
    let v = open_value x h.sign h.size h.value in
    ap (λ (f : Float). lt zero32 f) v.2 ∙ left_at h.sign v.0 v.1 h.size v.3 ∙ ap (λ (i : ℤ). lt_z (pos 0) i) h.is

pub is_right : (x : Float) (z : ℤ) → Is x z → lt x zero32 ≡ lt_z z (pos 0)
is_right x z h =
    let v = open_value x h.sign h.size h.value in
    ap (λ (f : Float). lt f zero32) v.2 ∙ right_at h.sign v.0 v.1 h.size v.3 ∙ ap (λ (i : ℤ). lt_z i (pos 0)) h.is

-- ---- for the reader
module _ (b0 b1 v : Point) (x0 y0 x1 y1 x y : ℤ) (p0 : IsPoint b0 x0 y0) (p1 : IsPoint b1 x1 y1) (pv : IsPoint v x y) where
  -- with whole coordinates from -1,024 to 1,024 no rounding changes the offset: it is the whole number `side_of`
  pub offset_exact : Is (offset_of b0 b1 v) (side_of x0 y0 x1 y1 x y)
  offset_exact = (offset_is b0 b1 v x0 y0 x1 y1 x y p0 p1 pv).0

  -- so it is above 0 exactly where v lies to the left of the blade's line, and below 0 exactly where v lies to its right
  pub offset_side : (lt zero32 (offset_of b0 b1 v) ≡ lt_z (pos 0) (side_of x0 y0 x1 y1 x y)) × (lt (offset_of b0 b1 v) zero32 ≡ lt_z (side_of x0 y0 x1 y1 x y) (pos 0))
  offset_side = (is_left (offset_of b0 b1 v) (side_of x0 y0 x1 y1 x y) offset_exact, is_right (offset_of b0 b1 v) (side_of x0 y0 x1 y1 x y) offset_exact)
