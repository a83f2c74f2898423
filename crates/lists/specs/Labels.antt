-- The labels of a relation: for each of n places the lowest that a chain joins to it. Definitions only; proofs/Labelled.antt proves that `labelled` gives them.
use Rattle.std.specs.Prelude.{ℕ, zero, suc, ◌-◌, ◌<◌, ◌≤◌, min, max, ◌≡◌, Bool, true, List, map, length, get_or, eqb}
use Rattle.lists.specs.Lists.{pick, up_to}
use Rattle.lists.specs.Chain.{Chain}

-- For each of n places the lowest that a chain of R joins to it.
pub record Lowest (R : ℕ → ℕ → Type 0) (n : ℕ) (p : List ℕ) : Type 0 where
  pub every : length p ≡ n
  pub chain : (i : ℕ) → i < n → Chain R i (get_or p i 0)
  pub least : (i j : ℕ) → i < n → j < n → Chain R i j → get_or p i 0 ≤ j

-- two of n places, the earlier first, that the test joins
pub record Joins (near : ℕ → ℕ → Bool) (n i j : ℕ) : Type 0 where
  pub order : i < j
  pub within : j < n
  pub joined : near i j ≡ true

-- ---- the same as a function, which antt computes

-- w for v
abbrev pub replaced : ℕ → ℕ → ℕ → ℕ
replaced v w x = pick (eqb x v) w x

-- two labels become the lower of the two, wherever they stand
unfoldable pub merged : ℕ → ℕ → List ℕ → List ℕ
merged x y p = map (replaced (max x y) (min x y)) p

-- a pair that the test joins gets one label
unfoldable pub join_pair : (ℕ → ℕ → Bool) → ℕ → ℕ → List ℕ → List ℕ
join_pair near i j p = pick (near i j) (merged (get_or p i 0) (get_or p j 0) p) p

-- i with each of the m places from j on; and each of the m places from i on with each later one of n
unfoldable pub join_row : (ℕ → ℕ → Bool) → ℕ → ℕ → ℕ → List ℕ → List ℕ
join_row near i zero j p = p
join_row near i (suc m) j p = join_row near i m (suc j) (join_pair near i j p)

unfoldable pub join_rows : (ℕ → ℕ → Bool) → ℕ → ℕ → ℕ → List ℕ → List ℕ
join_rows near n zero i p = p
join_rows near n (suc m) i p = join_rows near n m (suc i) (join_row near i (n - suc i) (suc i) p)

-- each place starts with its own number, and each pair that the test joins is joined
unfoldable pub labelled : (ℕ → ℕ → Bool) → ℕ → List ℕ
labelled near n = join_rows near n n 0 (up_to n)
