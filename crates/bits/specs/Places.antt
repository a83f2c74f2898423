-- What the functions on bits ask of their places: helper records that only contracts need.
use Rattle.std.specs.Prelude.{ℕ, ◌+◌, ◌*◌, ◌^◌, ◌<◌, ◌≤◌, ◌≡◌, List, length}

-- r is 2 to the k, k below 12
pub record Power (k r : ℕ) : Type 0 where
  pub is : r ≡ 2 ^ k
  pub some : 0 < r
  pub small : r ≤ 2048

-- w bits, at most 12, from bit `at` lie inside the bytes
pub record Inside (s : List ℕ) (at w : ℕ) : Type 0 where
  pub room : at + w ≤ 8 * length s
  pub narrow : w ≤ 12
  pub small : at + w < 2 ^ 32

-- n fields of w bits, `step` bits apart, lie inside the bytes, and the column has a place for each
pub record ColumnIn (s : List ℕ) (at step w n : ℕ) (out : List ℕ) : Type 0 where
  pub room : at + n * step ≤ 8 * length s
  pub small : at + n * step < 2 ^ 32
  pub wide : w ≤ step
  pub narrow : w ≤ 12
  pub places : n ≤ length out

-- a row of three fields lies inside the bytes
pub record RowIn (s : List ℕ) (at w0 w1 w2 : ℕ) : Type 0 where
  pub room : at + (w0 + w1 + w2) ≤ 8 * length s
  pub small : at + (w0 + w1 + w2) < 2 ^ 32
  pub narrow0 : w0 ≤ 12
  pub narrow1 : w1 ≤ 12
  pub narrow2 : w2 ≤ 12

-- a row for each entry of three equally long columns lies inside the bytes
pub record TableIn (s : List ℕ) (at w0 w1 w2 : ℕ) (a b c : List ℕ) : Type 0 where
  pub room : at + length a * (w0 + w1 + w2) ≤ 8 * length s
  pub small : at + length a * (w0 + w1 + w2) < 2 ^ 32
  pub narrow0 : w0 ≤ 12
  pub narrow1 : w1 ≤ 12
  pub narrow2 : w2 ≤ 12
  pub second : length b ≡ length a
  pub third : length c ≡ length a

-- a row of four fields, two of w and two of v bits, lies inside the bytes
pub record FourIn (s : List ℕ) (at w v : ℕ) : Type 0 where
  pub room : at + (w + w + v + v) ≤ 8 * length s
  pub small : at + (w + w + v + v) < 2 ^ 32
  pub narrow : w ≤ 12
  pub narrow2 : v ≤ 12
