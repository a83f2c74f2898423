-- The square root of an f32, correctly rounded, said with whole numbers alone.
-- A unit is 2 ^ -149, the smallest f32 above zero. Every finite f32 is a whole number of units, and 24 binary digits are all that it keeps:
-- q * 2 ^ k units, with q below 2 ^ 24. Definitions only.
use Rattle.std.specs.Prelude.{ℕ, zero, suc, ◌+◌, ◌-◌, ◌*◌, ◌/◌, ◌^◌, ◌≤◌, ◌<◌, ◌≡◌, Bool, true, false, cond, ℤ, T, leb, ltb, Float, Option, None, Some}
use Rattle.std.specs.Float.{nan, inf, fin, binary32}
use Rattle.std.specs.Float.Ieee.{up, down, fits, round, size as bits}
use Rattle.std.specs.Float.Ieee.Exact.{HasValue}

-- q * 2 ^ k units is the root of n units, rounded to the nearest number of 24 digits.
-- The root of n units is √(n * 2 ^ 149) units, as (2 ^ -149) ^ 2 is 2 ^ -149 units. So, each side squared and times 4:
-- the root lies above (q - 1/2) * 2 ^ k and below (q + 1/2) * 2 ^ k. (It is never halfway, so no tie has to be broken.)
-- And k is the place of the root's own last digit: the root is 2 ^ 23 * 2 ^ k at least.
pub record Nearest (n q k : ℕ) : Type 0 where
  pub digits : 2 ^ 23 ≤ q
  pub fewer : q < 2 ^ 24
  pub place : 2 ^ 46 * 4 ^ k ≤ n * 2 ^ 149
  pub above : (2 * q - 1) * (2 * q - 1) * 4 ^ k < 4 * (n * 2 ^ 149)
  pub below : 4 * (n * 2 ^ 149) < (2 * q + 1) * (2 * q + 1) * 4 ^ k

-- b is the bit pattern of a root of n units: k counts as the exponent's field, and q with it as the digits
pub record RootBits (n b : ℕ) : Type 0 where
  pub q : ℕ
  pub k : ℕ
  pub is : b ≡ k * 2 ^ 23 + q
  pub small : k ≤ 252
  pub nearest : Nearest n q k

-- r is an f32, and it is the rounded root of n units
pub record RootOfUnits (n : ℕ) (r : Float) : Type 0 where
  pub q : ℕ
  pub k : ℕ
  pub held : T (fits binary32 r)
  pub size : HasValue r false (q * 2 ^ k) (2 ^ 149)
  pub nearest : Nearest n q k

-- m * 2 ^ e in units
abbrev pub in_units : ℕ → ℤ → ℕ
in_units m e = m * up e * 2 ^ 149 / down e

-- what `root` answers for x, whose sign is s (true: below zero) and whose size is n units
abbrev pub RootAt : Bool → ℕ → Float → Option Float → Type 0
RootAt s zero x a = a ≡ Some x
RootAt true (suc n) x a = a ≡ None
RootAt false (suc n) x a = (r : Float) × (a ≡ Some r) × RootOfUnits (suc n) r

-- The answer a for x: a NaN, an infinity and a number below zero are refused, and either zero is its own root.
abbrev pub RootOf : Float → Option Float → Type 0
RootOf nan a = a ≡ None
RootOf (inf s) a = a ≡ None
RootOf (fin s m e) a = RootAt s (in_units m e) (fin s m e) a

-- ---- the same as a function, which antt computes. That it is the root above is proved in `proofs/Computed.antt`

-- the largest r with r * r ≤ n, for an n below 4 ^ d: its binary digits from the first to the last
unfoldable pub floor_root : ℕ → ℕ → ℕ
floor_root zero n = 0
floor_root (suc d) n = let r = 2 * floor_root d (n / 4) in cond (leb ((r + 1) * (r + 1)) n) (r + 1) r

-- the whole number nearest to the root of n, from the root's whole part r
abbrev pub nearest_root : ℕ → ℕ → ℕ
nearest_root n r = cond (ltb (r * r + r) n) (r + 1) r

-- the place of the last of 24 digits of the root of n units
abbrev pub place_of : ℕ → ℕ
place_of n = (bits (n * 2 ^ 149) - 47) / 2

unfoldable pub root_units : ℕ → Float
unfolding bits floor_root round
root_units n =
    let k = place_of n in
    let N = n * 2 ^ 149 / 4 ^ k in
    round binary32 false (nearest_root N (floor_root 24 N) * 2 ^ k) (2 ^ 149)

abbrev pub root_at : Bool → ℕ → Float → Option Float
root_at s zero x = Some x
root_at true (suc n) x = None
root_at false (suc n) x = Some (root_units (suc n))

abbrev pub root_of : Float → Option Float
root_of nan = None
root_of (inf s) = None
root_of (fin s m e) = root_at s (in_units m e) (fin s m e)

-- the refusal number of an answer (docs/RULES.md, R3.10): 0 for a root, 4 where there is none
abbrev pub root_refusal : Option Float → ℕ
root_refusal (Some r) = 0
root_refusal None = 4
