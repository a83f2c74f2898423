-- What a mask marks in one column, and a part of it that was moved: contracts of the functions that keep. Definitions only.
use Rattle.std.specs.Prelude.{ℕ, ◌+◌, ◌≤◌, ◌<◌, ◌≡◌, List, get_or}

-- r is the first place from `from` on and below n that the mask marks, or n
pub record NextMarked (m : List ℕ) (from n r : ℕ) : Type 0 where
  pub above : from ≤ r
  pub below : r ≤ n
  pub none : (k : ℕ) → from ≤ k → k < r → get_or m k 0 ≡ 1 → ⊥
  pub stop : r < n → get_or m r 0 ≡ 1

-- the len places of s from `from` on stand at `to` in s', and the other places are as they were
pub record Shifted {A : Type 0} (d : A) (to from len : ℕ) (s s' : List A) : Type 0 where
  pub moved : (k : ℕ) → k < len → get_or s' (to + k) d ≡ get_or s (from + k) d
  pub other : (j : ℕ) → (to ≤ j → j < to + len → ⊥) → get_or s' j d ≡ get_or s j d
