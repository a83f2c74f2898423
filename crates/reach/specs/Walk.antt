-- The walk over a table's rows. Only proofs and the contracts between workers need this file. Definitions only.
use Rattle.std.specs.Prelude.{ℕ, zero, suc, ◌-◌, ◌*◌, ◌<◌, ◌≤◌, ◌≡◌, Bool, true, false, ◌||◌, List, map, length, get_or, take, drop, eqb, leb, ltb}
use Rattle.lists.specs.Lists.{pick, stands, sift, up_to}
use Rattle.lists.specs.Chain.{Chain}
use Rattle.lists.specs.Labels.{Joins, labelled}
use Rattle.fan.specs.Fan.{shared_others_of}

-- ---- rows

-- the corners in row j, k to each row
abbrev pub row : ℕ → List ℕ → ℕ → List ℕ
row k verts j = take k (drop (j * k) verts)

-- all corners of row i but one, and none of them v, stand in row j
unfoldable pub facet_shared : ℕ → ℕ → List ℕ → ℕ → ℕ → Bool
facet_shared k v verts i j = leb (k - 1) (shared_others_of v (row k verts i) (row k verts j))

-- the same of two rows, the earlier first
unfoldable pub touching : ℕ → ℕ → List ℕ → ℕ → ℕ → Bool
touching k v verts i j = pick (ltb i j) (facet_shared k v verts i j) (facet_shared k v verts j i)

-- row j holds v
unfoldable pub holds_row : ℕ → ℕ → List ℕ → ℕ → Bool
holds_row k v verts j = stands v (row k verts j)

-- ---- counts

-- how many of the first n numbers pass
unfoldable pub tally : (ℕ → Bool) → ℕ → ℕ
tally p zero = 0
tally p (suc n) = pick (p n) (suc (tally p n)) (tally p n)

-- row j holds v, and the fan's group at its place is g
unfoldable pub seeds : ℕ → ℕ → List ℕ → List ℕ → ℕ → ℕ → Bool
seeds k v verts groups g j = pick (holds_row k v verts j) (eqb (get_or groups (tally (holds_row k v verts) j) 0) g) false

-- the labels at the places that pass
unfoldable pub seed_labels : (ℕ → Bool) → ℕ → List ℕ → List ℕ
seed_labels p n ls = map (λ j. get_or ls j 0) (sift p (up_to n))

-- how many of n places have the label of one that passes
unfoldable pub reach_from : (ℕ → Bool) → ℕ → List ℕ → ℕ
reach_from p n ls = tally (λ j. stands (get_or ls j 0) (seed_labels p n ls)) n

-- the same by the table: how many rows group g reaches
unfoldable pub table_reach : ℕ → ℕ → ℕ → List ℕ → List ℕ → ℕ → ℕ
table_reach n k v verts groups g = reach_from (seeds k v verts groups g) n (labelled (touching k v verts) n)

-- ---- what workers ask

-- n rows of k corners lie in a table of this length
pub record Rows (n k long : ℕ) : Type 0 where
  pub some : 1 ≤ k
  pub whole : n * k ≤ long

-- what the whole call asks: the rows, room for the walk, and a group for each row that holds v
pub record Lent (n k v : ℕ) (verts groups : List ℕ) (s q : ℕ) : Type 0 where
  pub rows : Rows n k (length verts)
  pub seen_room : n ≤ s
  pub queue_room : n ≤ q
  pub grouped : length groups ≡ tally (holds_row k v verts) n

-- ---- the walk

-- element j is marked
abbrev pub marked : List ℕ → ℕ → Bool
marked seen j = eqb (get_or seen j 0) 1

-- the queue's first tail entries are the marked rows
pub record Queued (n : ℕ) (seen queue : List ℕ) (tail : ℕ) : Type 0 where
  pub seen_room : n ≤ length seen
  pub queue_room : n ≤ length queue
  pub counted : tail ≡ tally (marked seen) n
  pub within : (a : ℕ) → a < tail → (get_or queue a 0 < n) × (marked seen (get_or queue a 0) ≡ true)
  pub listed : (j : ℕ) → j < n → marked seen j ≡ true → (a : ℕ) × ((a < tail) × (get_or queue a 0 ≡ j))

-- besides what was marked, exactly the rows that pass are marked now, and queued behind the others
pub record Spread (n : ℕ) (p : ℕ → Bool) (seen queue : List ℕ) (tail : ℕ) (seen' queue' : List ℕ) (end : ℕ) : Type 0 where
  pub queued : Queued n seen' queue' end
  pub marks : (j : ℕ) → j < n → marked seen' j ≡ marked seen j || p j
  pub kept : (a : ℕ) → a < tail → get_or queue' a 0 ≡ get_or queue a 0
  pub more : tail ≤ end

-- exactly the rows that pass are marked and queued
pub record Seeded (n : ℕ) (p : ℕ → Bool) (seen queue : List ℕ) (tail : ℕ) : Type 0 where
  pub queued : Queued n seen queue tail
  pub marks : (j : ℕ) → j < n → marked seen j ≡ p j

-- under way: what is marked is joined to what was marked first, and the neighbours of the first head entries are marked
pub record Walk (near : ℕ → ℕ → Bool) (n : ℕ) (first seen queue : List ℕ) (head tail : ℕ) : Type 0 where
  pub queued : Queued n seen queue tail
  pub below : head ≤ tail
  pub kept : (j : ℕ) → j < n → marked first j ≡ true → marked seen j ≡ true
  pub joined : (j : ℕ) → j < n → marked seen j ≡ true → (i : ℕ) × ((i < n) × ((marked first i ≡ true) × Chain (Joins near n) i j))
  pub closed : (a : ℕ) → a < head → (j : ℕ) → j < n → near (get_or queue a 0) j ≡ true → marked seen j ≡ true
