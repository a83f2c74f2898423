-- How far `round` goes: a fraction from 0 to 1 is rounded by at most 2 ^ -24. Assumes nothing.
use mathlib.Core.Path.{◌≡◌, sym, ap, ◌∙◌, subst}
use mathlib.Core.Logic.{◌⊎◌, inl, inr}
use Prim.Native.Nat.{ℕ, suc, ◌+◌, ◌-◌, ◌*◌, ◌/◌, ◌%◌, ◌^◌, ◌≤◌, ◌<◌, compare}
use native.Mathlib.Nat.{eq-or-lt_of_le, le_trans, le_of_eq, le_of_lt, lt_of_le_of_lt, lt_of_lt_of_le, mul-pos, mul-one, one-mul, mul_assoc, mul_comm, mul_right_comm, mul-le-mul_left, mul-le-mul_right, mul-lt-mul_of_pos_right, le_of_mul-le-mul_right, div-mul-le_self, div-lt_iff_lt-mul, lt-suc_self, suc-mul, add-mul, zero-lt-suc}
use native.Mathlib.Omega.{arith}
use mathlib.Core.Bool.{false}
use lib.Dec.{lit<, lit≤}
use lib.Pow.{pow_pos, pow_mono}
use lib.Ieee.{Float, nan, inf, fin, binary32, up, down, size, round}
use lib.Ieee.Digits.{size-le}
use lib.Ieee.Fits.{nearest-le}
use lib.Ieee.Exact.{HasValue}
use lib.Ieee.Back.{round_whole}
use lib.Ieee.Nearest.{closest, nearest-ge}
use lib.Ieee.Order.{drop, kept}
use lib.Ieee.Scale.{grid, round_val, round_same}
use Rattle.float.specs.Whole.{Near}

-- n / u to the nearest whole number is off by at most 1
off_by : (n u : ℕ) → 0 < u → (closest n u * u ≤ n + u) × (n ≤ closest n u * u + u)
off_by n u p =
    let w = n / u in
    let K = closest n u in
    let lo : w * u ≤ K * u = mul-le-mul_right u (nearest-ge w (compare (n % u * 2) u)) in
    let hi : K * u ≤ suc w * u = mul-le-mul_right u (nearest-le w (compare (n % u * 2) u)) in
    let a : w * u ≤ n = div-mul-le_self n u in
    let b : n < suc w * u = (div-lt_iff_lt-mul p).0 (lt-suc_self w) in
    let c : suc w * u ≡ w * u + u = suc-mul w u in
    omega arith

few : (z : ℕ) → z ≤ 149 → z - 24 ≤ 125
few z h = omega arith

join_hi : (x n u v : ℕ) → x ≤ n + u → u ≤ v → x ≤ n + v
join_hi x n u v a b = omega arith

join_lo : (x n u v : ℕ) → n ≤ x + u → u ≤ v → n ≤ x + v
join_lo x n u v a b = omega arith

sum_le : (x n v N W : ℕ) → x ≤ n + v → n ≤ N → v ≤ W → x ≤ N + W
sum_le x n v N W a b c = omega arith

rescaled : (x : Float) → HasValue x false 1 1 → HasValue x false (2 ^ 149) (2 ^ 149)
rescaled nan h = absurd h
rescaled (inf s) h = absurd h
rescaled (fin s m e) h = (h.0, ap (λ (z : ℕ). z * 2 ^ 149) (sym (mul-one (m * up e)) ∙ h.1 ∙ one-mul (down e)) ∙ mul_comm (down e) (2 ^ 149))

-- the number of units, and how far it is
pub close : (a b : ℕ) → 0 < b → a ≤ b → (u : ℕ) × HasValue (round binary32 false a b) false u (2 ^ 149) × (u * b ≤ a * 2 ^ 149 + b * 2 ^ 125) × (a * 2 ^ 149 ≤ u * b + b * 2 ^ 125)
close a b p h = go (eq-or-lt_of_le h)
  where
    go : (a ≡ b) ⊎ (a < b) → (u : ℕ) × HasValue (round binary32 false a b) false u (2 ^ 149) × (u * b ≤ a * 2 ^ 149 + b * 2 ^ 125) × (a * 2 ^ 149 ≤ u * b + b * 2 ^ 125)
    go (inl e) =
        (2 ^ 149, rescaled (round binary32 false a b) (subst (λ (x : Float). HasValue x false 1 1) (round_same binary32 false 1 1 a b (zero-lt-suc 0) p (one-mul b ∙ sym e ∙ sym (mul-one a))) (round_whole binary32 false 1 (lit≤ tt))), le_trans (le_of_eq (ap (λ (z : ℕ). 2 ^ 149 * z) (sym e) ∙ mul_comm (2 ^ 149) a)) (more (a * 2 ^ 149) (b * 2 ^ 125)), le_trans (le_of_eq (mul_comm a (2 ^ 149) ∙ ap (λ (z : ℕ). 2 ^ 149 * z) e)) (more (2 ^ 149 * b) (b * 2 ^ 125)))
      where
        more : (x y : ℕ) → x ≤ x + y
        more x y = omega arith
    go (inr l) =
        let n = a * 2 ^ 149 in
        let k = drop 24 n b in
        let u = b * 2 ^ k in
        let K = kept 24 n b in
        let g : grid binary32 a b * b ≡ K * u = mul_right_comm K (2 ^ k) b ∙ mul_assoc K b (2 ^ k) in
        let o = off_by n u (mul-pos p (pow_pos k)) in
        let s : size (n / b) ≤ 149 = size-le (n / b) 149 ((div-lt_iff_lt-mul p).1 (lt_of_lt_of_le (mul-lt-mul_of_pos_right l (pow_pos 149)) (le_of_eq (mul_comm b (2 ^ 149))))) in
        let v : u ≤ b * 2 ^ 125 = mul-le-mul_left b (pow_mono (few (size (n / b)) s)) in
        let hi : grid binary32 a b * b ≤ n + b * 2 ^ 125 = join_hi (grid binary32 a b * b) n u (b * 2 ^ 125) (le_trans (le_of_eq g) o.0) v in
        let lo : n ≤ grid binary32 a b * b + b * 2 ^ 125 = join_lo (grid binary32 a b * b) n u (b * 2 ^ 125) (le_trans o.1 (le_of_eq (ap (λ (z : ℕ). z + u) (sym g)))) v in
        let top : grid binary32 a b ≤ 2 ^ 149 + 2 ^ 125 = le_of_mul-le-mul_right
        (le_trans (sum_le (grid binary32 a b * b) n (b * 2 ^ 125) (2 ^ 149 * b) (2 ^ 125 * b) hi (le_trans (mul-le-mul_right (2 ^ 149) (le_of_lt l)) (le_of_eq (mul_comm b (2 ^ 149)))) (le_of_eq (mul_comm b (2 ^ 125))))
        (le_of_eq (sym (add-mul (2 ^ 149) (2 ^ 125) b)))) p in
        (grid binary32 a b, round_val binary32 a b (lt_of_le_of_lt top (lit< tt)), hi, lo)

pub near : (a b : ℕ) → 0 < b → a ≤ b → Near (round binary32 false a b) a b
near a b p h =
    let c = close a b p h in
    record { divides = p; sign = false; units = c.0; value = c.1; only_zero = λ t. absurd t; at_most = c.2; at_least = c.3 }
