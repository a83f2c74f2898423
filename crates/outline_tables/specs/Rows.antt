-- How columns of names and an outline's block are read as rows, and what the functions over them leave. Definitions only.
use Rattle.std.specs.Prelude.{ℕ, ◌+◌, ◌/◌, ◌<◌, ◌≤◌, ◌≡◌, not, List, [], ◌∷◌, ◌++◌, length, get_or}
use Rattle.lists.specs.Lists.{tab}
use Rattle.columns.specs.Block.{cell}
use Rattle.outline.specs.Outline.{same_sides_of, settled}
use Rattle.outline_tables.specs.declared.Settled.{Settled}

-- row k of three columns
abbrev pub row3 : List ℕ → List ℕ → List ℕ → ℕ → List ℕ
row3 a b c k = get_or a k 0 ∷ get_or b k 0 ∷ get_or c k 0 ∷ []

-- the rows of three columns: triangles, or edges with their third the structural flag
unfoldable pub rows3 : List ℕ → List ℕ → List ℕ → List (List ℕ)
rows3 a b c = tab (length a) (row3 a b c)

-- side k of an outline's block, of two columns of R places
abbrev pub side_at : ℕ → List ℕ → ℕ → List ℕ
side_at R o k = cell 0 R o 0 k ∷ cell 0 R o 1 k ∷ []

-- the first n sides of an outline's block
unfoldable pub sides_at : ℕ → List ℕ → List (List ℕ)
sides_at n o = tab n (side_at (length o / 2) o)

-- three columns of one length, which is small
pub record Even (a b c : ℕ) : Type 0 where
  pub second : b ≡ a
  pub third : c ≡ a
  pub few : a < 1048576

-- behind the n sides of a block come these: r in all, and if the block has room for r they stand there
pub record Added (more : List (List ℕ)) (o o' : List ℕ) (n r : ℕ) : Type 0 where
  pub count : r ≡ n + length more
  pub sides : r ≤ length o / 2 → sides_at r o' ≡ sides_at n o ++ more

-- these sides are n, and if the block has room for n it begins with them
pub record Listed (l : List (List ℕ)) (o : List ℕ) (n : ℕ) : Type 0 where
  pub count : n ≡ length l
  pub sides : n ≤ length o / 2 → sides_at n o ≡ l

-- n sides of a block of p places, and m of one of q places
pub record Held (n p m q : ℕ) : Type 0 where
  pub first : n ≤ p / 2
  pub second : m ≤ q / 2

-- what becomes of a typed outline, n sides of a block, beside the own one: the settled outline, and whether that is another
pub record SettledBy (typed own : List (List ℕ)) (o : List ℕ) (r : Settled) : Type 0 where
  pub sides : sides_at r.count o ≡ settled typed own
  pub told : r.replaced ≡ not (same_sides_of typed own)
