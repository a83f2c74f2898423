-- On whole points the answers by the signs of rounded offsets are the exact ones. Assumes nothing.
use Rattle.std.proofs.Common.{◌≡◌, ◌^◌, ◌≤◌, Bool, true, ◌&&◌, ◌||◌, [], ◌∷◌, ℤ, pos, ◌+ℤ◌, neg_ℤ, nat_abs, sym, ap, ◌∙◌, le_trans, arith}
use lib.IntN.{+ℤ_assoc, +ℤ_idr, neg_ℤ-neg_ℤ}
use lib.Signed.{lt_z}
use lib.Ieee.{Float, lt, neg}
use Rattle.lists.specs.Lists.{pick}
use Rattle.float.specs.Numbers.{plus}
use Rattle.float.specs.Whole.{Is}
use Rattle.float.proofs.Exact.{add_is, neg_is}
use Rattle.blade.specs.declared.Point.{Point}
use Rattle.blade.specs.declared.Hit.TheVariants.{Miss}
use Rattle.blade.specs.Blade.{offset_of}
use Rattle.blade.proofs.Sides.{offset_is, is_left, is_right, abs_add}
use Rattle.exact.specs.declared.Sign.TheVariants.{Left, On, Right}
use Rattle.exact.specs.Exact.{whole_of, whole_point_of, side_by, across, differ, crosses, rounded_at, exact_hit, sign_of, total}
use Rattle.exact.specs.Signs.{across_in, crosses_by_signs, hit_by_signs_of, sign_in, sign_of_sum_of}
use Rattle.exact.proofs.Compare.{is_less}
use Rattle.exact.proofs.Order.{less_above, less_below}
use Rattle.exact.proofs.Wholes.{whole_point_lem}

-- ---- an offset

-- the rounded offset is the whole number `side_by`, of size 2 ^ 23 at most
pub side_is : (b0 b1 v : Point) → whole_point_of b0 ≡ true → whole_point_of b1 ≡ true → whole_point_of v ≡ true → Is (offset_of b0 b1 v) (side_by b0 b1 v) × (nat_abs (side_by b0 b1 v) ≤ 2 ^ 23)
unfolding side_by
side_is b0 b1 v h k l =
    offset_is b0 b1 v (whole_of b0.x) (whole_of b0.y) (whole_of b1.x) (whole_of b1.y) (whole_of v.x) (whole_of v.y) (whole_point_lem b0 h) (whole_point_lem b1 k) (whole_point_lem v l)

-- ---- tests on floats that are whole numbers

across_is : (x y : Float) (a b : ℤ) → Is x a → Is y b → across_in x y ≡ across a b
across_is x y a b h k = rw (is_left x a h, is_left y b k, is_right x a h, is_right y b k)

differ_is : (x y : Float) (a b : ℤ) → Is x a → Is y b → (lt x y || lt y x) ≡ differ a b
differ_is x y a b h k = rw (is_less x y a b h k, is_less y x b a k h)

sign_is : (x : Float) (a : ℤ) → Is x a → sign_in x ≡ sign_of a
unfolding sign_in sign_of
sign_is x a h = rw (is_left x a h, is_right x a h)

-- - c is below s exactly if s + c is above 0, and above s exactly if s + c is below 0
past_left : (s c : ℤ) → lt_z (neg_ℤ c) s ≡ lt_z (pos 0) (s +ℤ c)
past_left s c = less_above (neg_ℤ c) s ∙ ap (λ (z : ℤ). lt_z (pos 0) (s +ℤ z)) (neg_ℤ-neg_ℤ c)

past_right : (s c : ℤ) → lt_z s (neg_ℤ c) ≡ lt_z (s +ℤ c) (pos 0)
past_right s c = less_below s (neg_ℤ c) ∙ ap (λ (z : ℤ). lt_z (s +ℤ z) (pos 0)) (neg_ℤ-neg_ℤ c)

sum_is : (x y z : Float) (a b c : ℤ) → Is x a → Is y b → Is z c → nat_abs (a +ℤ b) ≤ 2 ^ 24 → sign_of_sum_of x y z ≡ sign_of ((a +ℤ b) +ℤ c)
unfolding sign_of_sum_of sign_of
sum_is x y z a b c h k l small =
    let s = add_is x y a b h k small in
    let n = neg_is z c l in
    let e : lt (neg z) (plus x y) ≡ lt_z (pos 0) ((a +ℤ b) +ℤ c) = is_less (neg z) (plus x y) (neg_ℤ c) (a +ℤ b) n s ∙ past_left (a +ℤ b) c in
    let f : lt (plus x y) (neg z) ≡ lt_z ((a +ℤ b) +ℤ c) (pos 0) = is_less (plus x y) (neg z) (a +ℤ b) (neg_ℤ c) s n ∙ past_right (a +ℤ b) c in
    ap (λ (t : Bool). pick t Left (pick (lt (plus x y) (neg z)) Right On)) e
    ∙ ap (λ (t : Bool). pick (lt_z (pos 0) ((a +ℤ b) +ℤ c)) Left (pick t Right On)) f

total_three : (a b c : ℤ) → total (a ∷ b ∷ c ∷ []) ≡ (a +ℤ b) +ℤ c
unfolding total
total_three a b c = ap (λ (z : ℤ). a +ℤ (b +ℤ z)) (+ℤ_idr c) ∙ sym (+ℤ_assoc a b c)

-- ---- for the reader

module _ (b0 b1 : Point) (h0 : whole_point_of b0 ≡ true) (h1 : whole_point_of b1 ≡ true) where
  -- the test of a crossing is exact
  pub crosses_exact : (p q : Point) → whole_point_of p ≡ true → whole_point_of q ≡ true → crosses_by_signs b0 b1 p q ≡ crosses b0 b1 p q
  unfolding crosses_by_signs crosses
  crosses_exact p q hp hq =
      let dp = offset_of b0 b1 p in
      let dq = offset_of b0 b1 q in
      let p_is = (side_is b0 b1 p h0 h1 hp).0 in
      let q_is = (side_is b0 b1 q h0 h1 hq).0 in
      let e = across_is dp dq (side_by b0 b1 p) (side_by b0 b1 q) p_is q_is in
      let f = differ_is dp dq (side_by b0 b1 p) (side_by b0 b1 q) p_is q_is in
      let g = across_is (offset_of p q b0) (offset_of p q b1) (side_by p q b0) (side_by p q b1) (side_is p q b0 hp hq h0).0 (side_is p q b1 hp hq h1).0 in
      ap (λ (t : Bool). t && (lt dp dq || lt dq dp) && across_in (offset_of p q b0) (offset_of p q b1)) e
      ∙ ap (λ (t : Bool). across (side_by b0 b1 p) (side_by b0 b1 q) && t && across_in (offset_of p q b0) (offset_of p q b1)) f
      ∙ ap (λ (t : Bool). across (side_by b0 b1 p) (side_by b0 b1 q) && differ (side_by b0 b1 p) (side_by b0 b1 q) && t) g

  -- and so is the blade test, but for the fraction and the point that a hit carries, which are rounded
  pub hit_exact : (p q : Point) → whole_point_of p ≡ true → whole_point_of q ≡ true → hit_by_signs_of b0 b1 p q ≡ exact_hit b0 b1 p q
  unfolding hit_by_signs_of exact_hit
  hit_exact p q hp hq = ap (λ (t : Bool). pick t (rounded_at b0 b1 p q) Miss) (crosses_exact p q hp hq)

  -- the side of a point
  pub sign_exact : (v : Point) → whole_point_of v ≡ true → sign_in (offset_of b0 b1 v) ≡ sign_of (side_by b0 b1 v)
  sign_exact v h = sign_is (offset_of b0 b1 v) (side_by b0 b1 v) (side_is b0 b1 v h0 h1 h).0

  -- and of the middle of three
  pub sum_exact : (a b c : Point) → whole_point_of a ≡ true → whole_point_of b ≡ true → whole_point_of c ≡ true
      → sign_of_sum_of (offset_of b0 b1 a) (offset_of b0 b1 b) (offset_of b0 b1 c) ≡ sign_of (total (side_by b0 b1 a ∷ side_by b0 b1 b ∷ side_by b0 b1 c ∷ []))
  sum_exact a b c ha hb hc =
      let A = side_is b0 b1 a h0 h1 ha in
      let B = side_is b0 b1 b h0 h1 hb in
      let C = side_is b0 b1 c h0 h1 hc in
      sum_is (offset_of b0 b1 a) (offset_of b0 b1 b) (offset_of b0 b1 c) (side_by b0 b1 a) (side_by b0 b1 b) (side_by b0 b1 c) A.0 B.0 C.0 (two (side_by b0 b1 a) (side_by b0 b1 b) A.1 B.1)
      ∙ ap sign_of (sym (total_three (side_by b0 b1 a) (side_by b0 b1 b) (side_by b0 b1 c)))
    where
      two : (x y : ℤ) → nat_abs x ≤ 2 ^ 23 → nat_abs y ≤ 2 ^ 23 → nat_abs (x +ℤ y) ≤ 2 ^ 24
      two x y h k = le_trans (abs_add x y) (omega arith)
