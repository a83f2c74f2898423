-- `whole?` says exactly that a float is a whole number from -1,024 to 1,024, and `whole_of` which. Assumes nothing.
use Rattle.std.proofs.Common.{◌≡◌, ℕ, ◌+◌, ◌-◌, ◌*◌, ◌/◌, ◌^◌, ◌<◌, ◌≤◌, min, Bool, true, false, ◌&&◌, ◌||◌, T, eqb, ltb, ℤ, pos, negsuc, neg_ℤ, nat_abs, sym, refl, ap, ◌∙◌, subst, true≢false, le_trans, mul-le-mul_right, zero-lt-suc, div-lt_iff_lt-mul, mul-one, mul_right_comm, mul-div_cancel, arith, le→leb, lt→ltb, le-ltb, ne_eqb, eqb-true}
use native.Mathlib.Nat.{eq_of_mul-eq-mul_right}
use native.Mathlib.Decide.{dec_lt}
use lib.Ieee.{Float, nan, inf, fin, binary32, up, down, level, lt, le, eq, of_int, to_signed, in_float}
use lib.Ieee.Fits.{down_pos}
use lib.Ieee.Bits.{is_true}
use lib.Ieee.Order.{le_of_values}
use Rattle.float.specs.Numbers.{abs_of}
use Rattle.float.specs.Whole.{signed, Is}
use Rattle.float.proofs.Exact.{open_value, size_of, of_int_is}
use Rattle.float.proofs.Picks.{or_no, and_no_1, and_yes}
use Rattle.float.proofs.Units.{abs_value}
use Rattle.blade.specs.declared.Point.{Point}
use Rattle.blade.specs.Whole.{IsPoint}
use Rattle.exact.specs.Exact.{whole_of, whole?, whole_point_of}
use Rattle.exact.proofs.Compare.{is_equal}
use Rattle.lists.proofs.Sifts.{and_true}

-- ---- what the limit tells

at_most : (a b : ℕ) → (ltb a b || (eqb a b && true)) ≡ true → a ≤ b
at_most a b h = elim (dec_lt b a) [
  | yes l ↦
      let g : b ≤ a = omega arith in
      absurd (true≢false (sym h ∙ or_no (le-ltb a b g) (and_no_1 true (ne_eqb a b (λ e. omega arith)))))
  | no l ↦ omega arith
]

-- x is m * 2 ^ e with the sign s, of size 1,024 at most
pub record Limited (x : Float) : Type 0 where
  pub s : Bool
  pub m : ℕ
  pub e : ℤ
  pub is : x ≡ fin s m e
  pub small : m * up e ≤ 1024 * down e

pub limited : (x : Float) → le (abs_of x) (fin false 1 (pos 10)) ≡ true → Limited x
unfolding le lt eq abs_of
limited nan h = absurd (true≢false (sym h))
limited (inf s) h = absurd (true≢false (sym h))
limited (fin s m e) h =
    let l : m * up e * 1 ≤ 1024 * down e = at_most (m * up e * 1) (1024 * down e) h in
    record { s = s; m = m; e = e; is = refl; small = omega arith }

-- the whole part's size
abbrev part : ℕ → ℤ → ℕ
part m e = m * up e / down e

part_small : (n d : ℕ) → 0 < d → n ≤ 1024 * d → n / d ≤ 1024
part_small n d p h =
    let l : n < 1025 * d = omega arith in
    let k : n / d < 1025 = (div-lt_iff_lt-mul p).1 l in
    omega arith

uncapped : (q N : ℕ) → q ≤ 1024 → 1024 ≤ N → min q N ≡ q
uncapped q N h k = omega arith

of_fin : (s : Bool) (m : ℕ) (e : ℤ) → m * up e ≤ 1024 * down e → to_signed 63 (fin s m e) ≡ signed s (part m e)
unfolding to_signed
of_fin false m e h = ap pos (uncapped (part m e) (2 ^ 63 - 1) (part_small (m * up e) (down e) (down_pos e) h) (omega arith))
of_fin true m e h = ap (λ (n : ℕ). neg_ℤ (pos n)) (uncapped (part m e) (2 ^ 63) (part_small (m * up e) (down e) (down_pos e) h) (omega arith))

pub whole_part : (x : Float) (l : Limited x) → whole_of x ≡ signed l.s (part l.m l.e)
unfolding whole_of
whole_part x l = ap (to_signed 63) l.is ∙ of_fin l.s l.m l.e l.small

pub whole_small : (x : Float) → Limited x → nat_abs (whole_of x) ≤ 1024
whole_small x l =
    let e : nat_abs (whole_of x) ≡ part l.m l.e = ap nat_abs (whole_part x l) ∙ size_of l.s (part l.m l.e) in
    let k = part_small (l.m * up l.e) (down l.e) (down_pos l.e) l.small in
    subst (λ (n : ℕ). n ≤ 1024) (sym e) k

-- ---- a float that is equal to a whole number

equal_size : (y : Float) (z : ℤ) → Is y z → (s : Bool) (m : ℕ) (e : ℤ) → eq y (fin s m e) ≡ true → m * up e ≡ nat_abs z * down e
unfolding eq
equal_size y z h s m e q =
    let v = open_value y h.sign h.size h.value in
    let n = v.0 in
    let d = v.1 in
    let A = n * up d * down e in
    let B = m * up e * down d in
    let t : level h.sign A s B ≡ true = ap (λ (f : Float). eq f (fin s m e)) (sym v.2) ∙ q in
    let same : A ≡ B = eqb-true A B (and_true (eqb A B) _ t).0 in
    let size : h.size ≡ nat_abs z = sym (size_of h.sign h.size) ∙ ap nat_abs h.is in
    eq_of_mul-eq-mul_right (down d) (down_pos d) (m * up e) (h.size * down e) (sym same ∙ ap (λ (i : ℕ). i * down e) v.3 ∙ mul_right_comm h.size (down d) (down e))
    ∙ ap (λ (i : ℕ). i * down e) size

-- ---- the theorems

-- what passes the test is the whole number that its fraction cut off leaves, and is in the range
pub whole_is : (x : Float) → whole? x ≡ true → Is x (whole_of x) × (nat_abs (whole_of x) ≤ 1024)
unfolding whole?
whole_is x h =
    let t = and_true (le (abs_of x) (fin false 1 (pos 10))) _ h in
    let l = limited x t.0 in
    let z = whole_of x in
    let k : nat_abs z ≤ 1024 = whole_small x l in
    let q : part l.m l.e ≡ nat_abs z = sym (ap nat_abs (whole_part x l) ∙ size_of l.s (part l.m l.e)) in
    let i = of_int_is z (le_trans k (omega arith)) in
    let same : l.m * up l.e ≡ nat_abs z * down l.e = equal_size (of_int binary32 z) z i l.s l.m l.e (ap (eq (of_int binary32 z)) (sym l.is) ∙ t.1) in
    let r : Is (fin l.s l.m l.e) z = record {
      sign = l.s;
      size = part l.m l.e;
      value = (refl, mul-one (l.m * up l.e) ∙ same ∙ ap (λ (n : ℕ). n * down l.e) (sym q));
      is = sym (whole_part x l);
    } in
    (subst (λ (f : Float). Is f z) (sym l.is) r, k)

-- and every such number passes it
pub is_whole : (x : Float) (z : ℤ) → Is x z → nat_abs z ≤ 1024 → (whole? x ≡ true) × (whole_of x ≡ z)
unfolding whole?
is_whole x z h k =
    let n : nat_abs z ≡ h.size = ap nat_abs (sym h.is) ∙ size_of h.sign h.size in
    let small : h.size * 1 ≤ 1024 * 1 = omega arith in
    let below : le (abs_of x) (fin false 1 (pos 10)) ≡ true
    = is_true (le (abs_of x) (fin false 1 (pos 10))) (le_of_values (abs_of x) (fin false 1 (pos 10)) h.size 1 1024 1 (zero-lt-suc 0) (zero-lt-suc 0) (abs_value x h.sign h.size 1 h.value) (refl, refl) small) in
    let l = limited x below in
    let v = open_value x h.sign h.size h.value in
    let le' : v.0 * up v.1 ≤ 1024 * down v.1 = subst (λ (i : ℕ). i ≤ 1024 * down v.1) (sym v.3) (scaled h.size (down v.1) (omega arith)) in
    let w : whole_of x ≡ z = opened x h.sign v.0 v.1 v.2 le' ∙ ap (signed h.sign) (ap (λ (i : ℕ). i / down v.1) v.3 ∙ mul-div_cancel h.size (down_pos v.1)) ∙ h.is in
    (and_yes below (ap (λ (i : ℤ). eq (of_int binary32 i) x) w ∙ is_equal (of_int binary32 z) x z (of_int_is z (le_trans k (omega arith))) h), w)
  where
    scaled : (a d : ℕ) → a ≤ 1024 → a * d ≤ 1024 * d
    scaled a d g = mul-le-mul_right d g

    opened : (x : Float) (s : Bool) (m : ℕ) (e : ℤ) → x ≡ fin s m e → m * up e ≤ 1024 * down e → whole_of x ≡ signed s (part m e)
    opened x s m e i g = whole_part x record { s = s; m = m; e = e; is = i; small = g }

-- both coordinates
pub whole_point_lem : (p : Point) → whole_point_of p ≡ true → IsPoint p (whole_of p.x) (whole_of p.y)
whole_point_lem p h =
    let t = and_true (whole? p.x) (whole? p.y) h in
    let a = whole_is p.x t.0 in
    let b = whole_is p.y t.1 in
    record { x_is = a.0; y_is = b.0; x_in = a.1; y_in = b.1 }

-- ---- for the function: where the two casts are defined

-- from -2 ^ 63 on, and below 2 ^ 63
pub in_range : (x : Float) → Limited x → T (le (fin true 1 (pos 63)) x) × T (lt x (fin false 1 (pos 63)))
unfolding le lt
in_range x l = subst (λ (f : Float). T (le (fin true 1 (pos 63)) f) × T (lt f (fin false 1 (pos 63)))) (sym l.is) (at l.s l.m l.e l.small)
  where
    or_left : (a b : Bool) → T a → T (a || b)
    or_left true b h = tt
    or_left false b h = absurd h

    at : (s : Bool) (m : ℕ) (e : ℤ) → m * up e ≤ 1024 * down e → T (le (fin true 1 (pos 63)) (fin s m e)) × T (lt (fin s m e) (fin false 1 (pos 63)))
    at false m e h =
        let p = down_pos e in
        (or_left (ltb 0 (2 ^ 63 * down e + m * up e * 1)) _ (lt→ltb 0 (2 ^ 63 * down e + m * up e * 1) (omega arith)), lt→ltb (m * up e * 1) (2 ^ 63 * down e) (omega arith))
    at true m e h =
        let p = down_pos e in
        (or_left (ltb (m * up e * 1) (2 ^ 63 * down e)) _ (lt→ltb (m * up e * 1) (2 ^ 63 * down e) (omega arith)), lt→ltb 0 (m * up e * 1 + 2 ^ 63 * down e) (omega arith))

-- every whole number of that size is an f32
pub is_float : (z : ℤ) → nat_abs z ≤ 1024 → T (in_float binary32 z)
unfolding in_float
is_float (pos n) h = le→leb n (2 ^ 24) (omega arith)
is_float (negsuc n) h = lt→ltb n (2 ^ 24) (omega arith)
