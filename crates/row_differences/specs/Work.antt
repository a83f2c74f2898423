-- What the workers ask and promise. Only the contracts between workers, and theorems, need this file. Definitions only.
use Rattle.std.specs.Prelude.{ℕ, ◌+◌, ◌/◌, ◌^◌, ◌<◌, ◌≤◌, ◌≡◌, Bool, true, false, ltb, List, length, get_or, take, Option, None, Some}
use Rattle.lists.specs.Lists.{pick, tab}
use Rattle.bits.specs.Rows.{column_at}
use Rattle.sheet.specs.Work.{RowsIn}
use Rattle.differences.specs.declared.Part.{Part}
use Rattle.differences.specs.declared.Part.TheVariants.{Particles, Triangles, Edges, Boundary}
use Rattle.differences.specs.Work.{row_by}

-- a number that is not below either of two, nor above both together
pub record Longer (n m r : ℕ) : Type 0 where
  pub first : n ≤ r
  pub second : m ≤ r
  pub few : r ≤ n + m

-- three columns of one length
pub record Level (a b c : ℕ) : Type 0 where
  pub second : b ≡ a
  pub third : c ≡ a

-- the reading of place k of three columns
abbrev pub reading_at : List ℕ → List ℕ → List ℕ → ℕ → Option (ℕ × ℕ × ℕ)
reading_at a b c k = pick (ltb k (length a)) (Some (get_or a k 0, get_or b k 0, get_or c k 0)) None

-- the rows of three columns
unfoldable pub rows_in : Part → List ℕ → List ℕ → List ℕ → List (List ℕ)
rows_in p a b c = tab (length a) (λ k. row_by p (get_or a k 0) (get_or b k 0) (get_or c k 0))

-- the first two columns of particles hold coordinates' fields
abbrev pub CoordsIn : Part → List ℕ → List ℕ → Type 0
CoordsIn Particles a b = (k : ℕ) → (get_or a k 0 < 2048) × (get_or b k 0 < 2048)
CoordsIn Triangles a b = Unit {0}
CoordsIn Edges a b = Unit {0}
CoordsIn Boundary a b = Unit {0}

-- what the lines of two lists in columns ask
pub record RowsAsked (p : Part) (a b c x y z : List ℕ) (count : ℕ) : Type 0 where
  pub first : Level (length a) (length b) (length c)
  pub second : Level (length x) (length y) (length z)
  pub few : length a ≤ 256
  pub few_second : length x ≤ 256
  pub coords : CoordsIn p a b
  pub coords_second : CoordsIn p x y
  pub counted : count ≤ 3000

-- n rows of three fields from bit `at` lie inside the bytes, with a blade behind them, and three columns have places for them
pub record ThreeIn (s : List ℕ) (at w v n la lb lc : ℕ) : Type 0 where
  pub rows : RowsIn s (at + 44) (w + w + v) n
  pub narrow : w ≤ 11
  pub narrow_third : v ≤ 11
  pub few : n ≤ 256
  pub first : n ≤ la
  pub second : n ≤ lb
  pub third : n ≤ lc

-- they stand at the fronts of the columns
pub record ThreeRead (l : List ℕ) (at w v n : ℕ) (a b c : List ℕ) : Type 0 where
  pub first : take n a ≡ column_at l at (w + w + v) w n
  pub second : take n b ≡ column_at l (at + w) (w + w + v) w n
  pub third : take n c ≡ column_at l (at + w + w) (w + w + v) v n

-- the lists whose entries have three fields
abbrev pub of_three : Part → Bool
of_three Particles = true
of_three Triangles = true
of_three Edges = true
of_three Boundary = false

-- what the lines of one list of two sheets ask
pub record ListAsked (p : Part) (w v : ℕ) (s : List ℕ) (at n : ℕ) (t : List ℕ) (from m : ℕ) (count : ℕ) : Type 0 where
  pub three : of_three p ≡ true
  pub narrow : w ≤ 11
  pub narrow_third : v ≤ 11
  pub coords : 2 ^ w ≤ 2048
  pub rows : RowsIn s (at + 44) (w + w + v) n
  pub rows_second : RowsIn t (from + 44) (w + w + v) m
  pub few : n ≤ 256
  pub few_second : m ≤ 256
  pub counted : count ≤ 3000

-- what the lines of two outlines ask
pub record SidesAsked (n left m right count : ℕ) : Type 0 where
  pub first : n ≤ left / 2
  pub second : m ≤ right / 2
  pub few : n ≤ 256
  pub few_second : m ≤ 256
  pub counted : count ≤ 3000
