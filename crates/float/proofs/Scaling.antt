-- m * 2 ^ x units as 4 ^ k times a number of 47 or 48 digits, whose nearest root has 24 digits. Assumes nothing.
use mathlib.Core.Path.{◌≡◌, refl, sym, ap, ◌∙◌, subst}
use Prim.Native.Nat.{ℕ, zero, suc, ◌+◌, ◌-◌, ◌*◌, ◌%◌, ◌^◌, ◌≤◌, ◌<◌}
use native.Mathlib.Nat.{lt_of_not-le, not-le_of_lt, le_of_eq, le_trans, lt_of_le_of_lt, lt_of_lt_of_le, mul-le-mul_right, mul-lt-mul_of_pos_right, mul_assoc, mod-eq_of_lt, pow-succ'}
use native.Mathlib.Omega.{arith}
use lib.Dec.{lit≤}
use lib.Pow.{pow-add, pow_pos, pow_mono}
use lib.Count.{count_leading_zeros, leading_top}
use Rattle.float.specs.Root.{Nearest, RootBits}
use Rattle.float.proofs.Squares.{Closest}

pub pow_lt_inv : {i j : ℕ} → 2 ^ i < 2 ^ j → i < j
pow_lt_inv {i} {j} h = lt_of_not-le (λ (g : j ≤ i). not-le_of_lt h (pow_mono g))

pub four : (k : ℕ) → 4 ^ k ≡ 2 ^ (k + k)
four zero = refl
four (suc k) =
    let a : 4 ^ suc k ≡ 4 * 4 ^ k = pow-succ' 4 k in
    let b : 2 ^ (suc k + suc k) ≡ 2 * (2 * 2 ^ (k + k)) = ap (λ (i : ℕ). 2 ^ i) (omega arith) ∙ pow-succ' 2 (suc (k + k)) ∙ ap (λ (z : ℕ). 2 * z) (pow-succ' 2 (k + k)) in
    let h : 4 ^ k ≡ 2 ^ (k + k) = four k in
    omega arith

-- ---- m with its leading zeros shifted out
pub record Shifted (m : ℕ) : Type 0 where
  pub enough : 8 ≤ count_leading_zeros 32 m
  pub short : count_leading_zeros 32 m ≤ 31
  pub whole : (m * 2 ^ (count_leading_zeros 32 m - 8)) % 2 ^ 32 ≡ m * 2 ^ (count_leading_zeros 32 m - 8)
  pub low : 2 ^ 23 ≤ m * 2 ^ (count_leading_zeros 32 m - 8)
  pub high : m * 2 ^ (count_leading_zeros 32 m - 8) < 2 ^ 24

pub shifted : (m : ℕ) → 0 < m → m < 2 ^ 24 → Shifted m
shifted m p h =
    let t = leading_top 32 m p (lt_of_lt_of_le h (lit≤ tt)) in
    let z = count_leading_zeros 32 m in
    let j = t.0 in
    let s = z - 8 in
    let e : z + suc j ≡ 32 = t.1 in
    let j_lt : j < 24 = pow_lt_inv {j = 24} (lt_of_le_of_lt t.2 h) in
    let js : j + s ≡ 23 = omega arith in
    let js' : suc j + s ≡ 24 = omega arith in
    let lo : 2 ^ 23 ≤ m * 2 ^ s = le_trans (le_of_eq (ap (λ (i : ℕ). 2 ^ i) (sym js) ∙ pow-add 2 j s)) (mul-le-mul_right (2 ^ s) t.2) in
    let hi : m * 2 ^ s < 2 ^ 24 = lt_of_lt_of_le (mul-lt-mul_of_pos_right t.3 (pow_pos s)) (le_of_eq (sym (pow-add 2 (suc j) s) ∙ ap (λ (i : ℕ). 2 ^ i) js')) in
    record { enough = omega arith; short = omega arith; whole = mod-eq_of_lt (lt_of_lt_of_le hi (lit≤ tt)); low = lo; high = hi }

-- ---- a number N whose nearest root is q, times 4 ^ k
pub assemble : (n N q k : ℕ) → n * 2 ^ 149 ≡ N * 4 ^ k → 2 ^ 46 ≤ N → Closest N q → Nearest n q k
assemble n N q k e lo h =
    let p : 0 < 4 ^ k = subst (λ (z : ℕ). 0 < z) (sym (four k)) (pow_pos (k + k)) in
    let e4 : 4 * (n * 2 ^ 149) ≡ 4 * N * 4 ^ k = ap (λ (z : ℕ). 4 * z) e ∙ sym (mul_assoc 4 N (4 ^ k)) in
    record {
      digits = h.0;
      fewer = h.1;
      place = le_trans (mul-le-mul_right (4 ^ k) lo) (le_of_eq (sym e));
      above = lt_of_lt_of_le (mul-lt-mul_of_pos_right h.2 p) (le_of_eq (sym e4));
      below = lt_of_le_of_lt (le_of_eq e4) (mul-lt-mul_of_pos_right h.3 p);
    }

-- ---- m * 2 ^ x, whose m was shifted by s, with d more digits in the root's argument
pub spread : (m x s d k : ℕ) → x + 149 ≡ s + d + (k + k) → m * 2 ^ x * 2 ^ 149 ≡ m * 2 ^ s * 2 ^ d * 4 ^ k
spread m x s d k e =
    mul_assoc m (2 ^ x) (2 ^ 149)
    ∙ ap (λ (z : ℕ). m * z) (sym (pow-add 2 x 149) ∙ ap (λ (i : ℕ). 2 ^ i) e ∙ pow-add 2 (s + d) (k + k) ∙ ap (λ (z : ℕ). z * 2 ^ (k + k)) (pow-add 2 s d))
    ∙ sym (mul_assoc m (2 ^ s * 2 ^ d) (2 ^ (k + k)))
    ∙ ap (λ (z : ℕ). z * 2 ^ (k + k)) (sym (mul_assoc m (2 ^ s) (2 ^ d)))
    ∙ ap (λ (z : ℕ). m * 2 ^ s * 2 ^ d * z) (sym (four k))

-- the bits, from the root q of the scaled number: d is 23 or 24
pub bits : (m x s d k q W : ℕ) → x + 149 ≡ s + d + (k + k) → k ≤ 252 → W ≡ m * 2 ^ s → 2 ^ 46 ≤ W * 2 ^ d → Closest (W * 2 ^ d) q → RootBits (m * 2 ^ x) (k * 2 ^ 23 + q)
bits m x s d k q W e b w lo h =
    record {
      q = q;
      k = k;
      is = refl;
      small = b;
      nearest = assemble (m * 2 ^ x) (W * 2 ^ d) q k (spread m x s d k e ∙ ap (λ (z : ℕ). z * 2 ^ d * 4 ^ k) (sym w)) lo h;
    }
