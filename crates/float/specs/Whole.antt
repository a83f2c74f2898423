-- A float that is a whole number. Definitions only.
use Rattle.std.specs.Prelude.{ℕ, ◌+◌, ◌*◌, ◌^◌, ◌≤◌, ◌<◌, T, ◌≡◌, Bool, true, false, ℤ, pos, neg_ℤ, Float}
use Rattle.std.specs.Float.Ieee.Exact.{HasValue}

-- n, or -n where s is true
abbrev pub signed : Bool → ℕ → ℤ
signed false n = pos n
signed true n = neg_ℤ (pos n)

-- x is finite and is the whole number z. (Either zero is the number 0.)
pub record Is (x : Float) (z : ℤ) : Type 0 where
  pub sign : Bool
  pub size : ℕ
  pub value : HasValue x sign size 1
  pub is : signed sign size ≡ z

-- x is within 1 / 16,777,216 of the fraction a / b, which is a number as b is not 0, and not below zero. x is `units` times 2 ^ -149, and 2 ^ 125 such units are 1 / 16,777,216.
pub record Near (x : Float) (a b : ℕ) : Type 0 where
  pub divides : 0 < b
  pub sign : Bool
  pub units : ℕ
  pub value : HasValue x sign units (2 ^ 149)
  pub only_zero : T sign → units ≡ 0
  pub at_most : units * b ≤ a * 2 ^ 149 + b * 2 ^ 125
  pub at_least : a * 2 ^ 149 ≤ units * b + b * 2 ^ 125
