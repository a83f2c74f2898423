-- The root as a function is the root as it is defined, and so is every answer that the definition allows. Assumes nothing.
use mathlib.Core.Path.{◌≡◌, refl, sym, ap, ◌∙◌, subst}
use Prim.Native.Nat.{ℕ, zero, suc, ◌+◌, ◌-◌, ◌*◌, ◌/◌, ◌%◌, ◌^◌, ◌≤◌, ◌<◌}
use native.Mathlib.Nat.{lt_irrefl, le_trans, le_of_eq, lt_of_le_of_lt, lt_of_lt_of_le, mul-le-mul_right, mul-div_cancel, zero-lt-suc, pow-suc, zero-mul}
use native.Mathlib.Omega.{arith}
use mathlib.Core.Bool.{Bool, true, false, not, cond, ◌&&◌, ◌||◌}
use lib.Dec.{T, leb, ltb, eqb, eqb→eq, not_T, leb→le, nleb→lt, ltb→lt, nltb→le, lit≤, lit<}
use lib.Pow.{pow-add, pow_pos, pow_mono, shl_lt}
use lib.Count.{count_leading_zeros}
use lib.Ieee.{Float, nan, inf, fin, binary32, down, size, round, fits}
use lib.Ieee.Digits.{size-lt, size-le}
use lib.Ieee.Fits.{round-fits, down_pos}
use lib.Ieee.Exact.{HasValue, round_exact}
use lib.Ieee.Bits.{is_false}
use Rattle.std.specs.Prelude.{Option}
use Rattle.float.specs.Root.{RootOfUnits, RootAt, RootOf, in_units, floor_root, nearest_root, place_of, root_units, root_at, root_of, root_refusal}
use Rattle.float.specs.Ranges.{finite?, not_below0?}
use Rattle.float.proofs.Squares.{Closest, stays, moves}
use Rattle.float.proofs.Scaling.{four, Shifted, shifted, spread, assemble, pow_lt_inv}
use Rattle.float.proofs.Unique.{root_unique}
use Rattle.float.proofs.Units.{units_of, not_below}

-- ---- the whole part
abbrev Floor : ℕ → ℕ → Type 0
Floor n r = (r * r ≤ n) × (n < (r + 1) * (r + 1))

step_lt : (n p : ℕ) → n < p * 4 → n / 4 < p
step_lt n p h = omega arith

floor_is : (d n : ℕ) → n < 4 ^ d → Floor n (floor_root d n)
unfolding floor_root
floor_is zero n h = (omega arith, h)
floor_is (suc d) n h = go (floor_root d (n / 4)) (floor_is d (n / 4) (step_lt n (4 ^ d) (subst (λ (z : ℕ). n < z) (pow-suc 4 d) h))) (leb ((2 * floor_root d (n / 4) + 1) * (2 * floor_root d (n / 4) + 1)) n) (leb→le ((2 * floor_root d (n / 4) + 1) * (2 * floor_root d (n / 4) + 1)) n) (nleb→lt ((2 * floor_root d (n / 4) + 1) * (2 * floor_root d (n / 4) + 1)) n)
  where
    go : (f : ℕ) → Floor (n / 4) f → (b : Bool) → (T b → (2 * f + 1) * (2 * f + 1) ≤ n) → (T (not b) → n < (2 * f + 1) * (2 * f + 1)) → Floor n (cond b (2 * f + 1) (2 * f))
    go f i true p q =
        let l : (2 * f + 1) * (2 * f + 1) ≤ n = p tt in
        let lo : f * f ≤ n / 4 = i.0 in
        let hi : n / 4 < (f + 1) * (f + 1) = i.1 in
        (l, omega arith)
    go f i false p q =
        let l : n < (2 * f + 1) * (2 * f + 1) = q tt in
        let lo : f * f ≤ n / 4 = i.0 in
        (omega arith, l)

nearest_is : (N : ℕ) → 2 ^ 46 ≤ N → N ≤ 2 ^ 48 - 2 ^ 24 → Closest N (nearest_root N (floor_root 24 N))
nearest_is N lo hi = go (floor_root 24 N) (floor_is 24 N (lt_of_le_of_lt hi (lit< tt))) (ltb (floor_root 24 N * floor_root 24 N + floor_root 24 N) N) (ltb→lt (floor_root 24 N * floor_root 24 N + floor_root 24 N) N) (nltb→le (floor_root 24 N * floor_root 24 N + floor_root 24 N) N)
  where
    go : (r : ℕ) → Floor N r → (b : Bool) → (T b → r * r + r < N) → (T (not b) → N ≤ r * r + r) → Closest N (cond b (r + 1) r)
    go r f true p q = moves N r lo hi f.0 f.1 (p tt)
    go r f false p q = stays N r lo hi f.0 f.1 (q tt)

-- ---- m * 2 ^ x units as 4 ^ k times a number of 47 or 48 digits
pub record Scaled (n : ℕ) : Type 0 where
  pub N : ℕ
  pub k : ℕ
  pub is : n * 2 ^ 149 ≡ N * 4 ^ k
  pub low : 2 ^ 46 ≤ N
  pub high : N ≤ 2 ^ 48 - 2 ^ 24
  pub small : k ≤ 252

pub scaled : (m x : ℕ) → 0 < m → m < 2 ^ 24 → x ≤ 253 → Scaled (m * 2 ^ x)
scaled m x p h l = go (e % 2) refl
  where
    sh : Shifted m
    sh = shifted m p h

    s : ℕ
    s = count_leading_zeros 32 m - 8

    W : ℕ
    W = m * 2 ^ s

    e : ℕ
    e = x + 149 - s

    odd_sum : (x z : ℕ) → z ≤ 31 → (x + 149 - (z - 8)) % 2 ≡ 1 → x + 149 ≡ z - 8 + 23 + ((x + 149 - (z - 8) - 23) / 2 + (x + 149 - (z - 8) - 23) / 2)
    odd_sum x z a b = omega arith

    even_sum : (x z : ℕ) → z ≤ 31 → (x + 149 - (z - 8)) % 2 ≡ 0 → x + 149 ≡ z - 8 + 24 + ((x + 149 - (z - 8) - 24) / 2 + (x + 149 - (z - 8) - 24) / 2)
    even_sum x z a b = omega arith

    one : (r e : ℕ) → e % 2 ≡ suc r → e % 2 ≡ 1
    one r e h = omega arith

    most : (w : ℕ) → w < 2 ^ 24 → (w * 2 ^ 24 ≤ 2 ^ 48 - 2 ^ 24) × (w * 2 ^ 23 ≤ 2 ^ 48 - 2 ^ 24)
    most w h = omega arith

    small_24 : (x s : ℕ) → x ≤ 253 → (x + 149 - s - 24) / 2 ≤ 252
    small_24 x s h = omega arith

    small_23 : (x s : ℕ) → x ≤ 253 → (x + 149 - s - 23) / 2 ≤ 252
    small_23 x s h = omega arith

    go : (r : ℕ) → e % 2 ≡ r → Scaled (m * 2 ^ x)
    go zero z =
        record {
          N = W * 2 ^ 24;
          k = (e - 24) / 2;
          is = spread m x s 24 ((e - 24) / 2) (even_sum x (count_leading_zeros 32 m) sh.short z);
          low = le_trans (lit≤ tt) (mul-le-mul_right (2 ^ 24) sh.low);
          high = (most W sh.high).0;
          small = small_24 x s l;
        }
    go (suc r) z =
        record {
          N = W * 2 ^ 23;
          k = (e - 23) / 2;
          is = spread m x s 23 ((e - 23) / 2) (odd_sum x (count_leading_zeros 32 m) sh.short (one r e z));
          low = mul-le-mul_right (2 ^ 23) sh.low;
          high = (most W sh.high).1;
          small = small_23 x s l;
        }

-- ---- the place
size_gt : (n j : ℕ) → 2 ^ j ≤ n → j < size n
size_gt n j h = pow_lt_inv (lt_of_le_of_lt h (size-lt n))

halved : (z k : ℕ) → 46 + (k + k) < z → z ≤ 48 + (k + k) → (z - 47) / 2 ≡ k
halved z k a b = omega arith

place_is : (n : ℕ) (c : Scaled n) → place_of n ≡ c.k
place_is n c =
    let P = n * 2 ^ 149 in
    let k = c.k in
    let F : 4 ^ k ≡ 2 ^ (k + k) = four k in
    let lo : 2 ^ (46 + (k + k)) ≤ P = le_trans (le_of_eq (pow-add 2 46 (k + k) ∙ ap (λ (z : ℕ). 2 ^ 46 * z) (sym F))) (le_trans (mul-le-mul_right (4 ^ k) c.low) (le_of_eq (sym c.is))) in
    let hi : P < 2 ^ (48 + (k + k)) = lt_of_le_of_lt (le_of_eq (c.is ∙ ap (λ (z : ℕ). c.N * z) F)) (shl_lt 48 (k + k) (lt_of_le_of_lt c.high (lit< tt))) in
    halved (size P) k (size_gt P (46 + (k + k)) lo) (size-le P (48 + (k + k)) hi)

-- ---- the root of n units
abbrev rounded : ℕ → ℕ → Float
rounded N k = round binary32 false (nearest_root N (floor_root 24 N) * 2 ^ k) (2 ^ 149)

opened : (n : ℕ) → root_units n ≡ rounded (n * 2 ^ 149 / 4 ^ place_of n) (place_of n)
unfolding root_units
opened n = refl

pub units_root : (n : ℕ) → Scaled n → RootOfUnits n (root_units n)
units_root n c =
    let N = c.N in
    let k = c.k in
    let q = nearest_root N (floor_root 24 N) in
    let near = nearest_is N c.low c.high in
    let F : 0 < 4 ^ k = subst (λ (z : ℕ). 0 < z) (sym (four k)) (pow_pos (k + k)) in
    let e : root_units n ≡ rounded N k =
    opened n
    ∙ ap (λ (z : ℕ). rounded (n * 2 ^ 149 / 4 ^ z) z) (place_is n c)
    ∙ ap (λ (z : ℕ). rounded (z / 4 ^ k) k) c.is
    ∙ ap (λ (z : ℕ). rounded z k) (mul-div_cancel N F) in
    subst (λ (r : Float). RootOfUnits n r) (sym e)
    record {
      q = q;
      k = k;
      held = round-fits binary32 false (q * 2 ^ k) (2 ^ 149);
      size = round_exact binary32 false (q * 2 ^ k) (2 ^ 149) q k (pow_pos 149) near.1 (lt_of_lt_of_le (shl_lt 24 k near.1) (pow_mono (room k c.small))) refl;
      nearest = assemble n N q k c.is c.low near;
    }
  where
    room : (k : ℕ) → k ≤ 252 → 24 + k ≤ 277
    room k h = omega arith

-- ---- the root of x
at_total : (s : Bool) (n : ℕ) (x : Float) → (0 < n → Scaled n) → RootAt s n x (root_at s n x)
at_total true zero x h = refl
at_total false zero x h = refl
at_total true (suc n) x h = refl
at_total false (suc n) x h = (root_units (suc n), refl, units_root (suc n) (h (zero-lt-suc n)))

by_value : (x : Float) (s : Bool) (n : ℕ) → HasValue x s n (2 ^ 149) → (0 < n → Scaled n) → RootOf x (root_of x)
by_value nan s n v h = absurd v
by_value (inf t) s n v h = absurd v
by_value (fin t m e) s n v h =
    at_total t (in_units m e) (fin t m e) (subst (λ (z : ℕ). 0 < z → Scaled z) (sym (ap (λ (z : ℕ). z / down e) v.1 ∙ mul-div_cancel n (down_pos e))) h)

factor_pos : (q k : ℕ) → 0 < q * 2 ^ k → 0 < q
factor_pos zero k h = absurd (lt_irrefl 0 (subst (λ (z : ℕ). 0 < z) (zero-mul (2 ^ k)) h))
factor_pos (suc q) k h = zero-lt-suc q

-- the function's answer is one that the definition allows
pub root_total : (x : Float) → T (fits binary32 x) → RootOf x (root_of x)
unfolding finite?
root_total nan h = refl
root_total (inf s) h = refl
root_total (fin s m e) h =
    let x = fin s m e in
    let u = units_of x h refl in
    by_value x u.sign (u.q * 2 ^ u.j) u.value (λ p. scaled u.q u.j (factor_pos u.q u.j p) u.small u.place)

-- and the only one
pub root_is : (x : Float) (a : Option Float) → T (fits binary32 x) → RootOf x a → a ≡ root_of x
root_is x a h r = root_unique x a (root_of x) r (root_total x h)

-- ---- which numbers have a root
refusal_at : (s : Bool) (n : ℕ) (x : Float) → root_refusal (root_at s n x) ≡ cond (not s || eqb n 0) 0 4
refusal_at true zero x = refl
refusal_at false zero x = refl
refusal_at true (suc n) x = sym (ap (λ (z : Bool). cond z 0 4) (is_false (eqb (suc n) 0) (not_T (eqb (suc n) 0) (λ t. none n (eqb→eq (suc n) 0 t)))))
  where
    none : (n : ℕ) → suc n ≡ 0 → ⊥
    none n h = omega arith
refusal_at false (suc n) x = refl

-- The root is refused, with the number 4, exactly where x is a NaN, infinite or below zero. (Minus zero is not below zero.)
pub root_refused : (x : Float) → T (fits binary32 x) → root_refusal (root_of x) ≡ cond (finite? x && not_below0? x) 0 4
unfolding finite? not_below0?
root_refused nan h = refl
root_refused (inf s) h = refl
root_refused (fin s m e) h =
    let x = fin s m e in
    let u = units_of x h refl in
    let n = u.q * 2 ^ u.j in
    let is : in_units m e ≡ n = ap (λ (z : ℕ). z / down e) u.value.1 ∙ mul-div_cancel n (down_pos e) in
    ap (λ (z : ℕ). root_refusal (root_at s z x)) is
    ∙ refusal_at s n x
    ∙ ap (λ (z : Bool). cond z 0 4) (sym (not_below x s n (2 ^ 149) (pow_pos 149) (refl, u.value.1)))
