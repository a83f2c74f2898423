-- What an entry's answer says: the refusal by its number (docs/RULES.md, R3), or the value that the model's call gives. Definitions only.
use Rattle.std.specs.Prelude.{ℕ, ◌≡◌, List, [], length, leb, Result, Ok, Err}
use Rattle.lists.specs.Lists.{pick, padded}
use Rattle.model.specs.Reads.{Read, refused, value}
use Rattle.model.specs.Refusals.{argument_refusal}
use Rattle.mesh.specs.Refused.{answer_in}
use Rattle.mesh.specs.declared.refusals.Refusal.{Refusal}

-- ---- groups: a table is lent for them

-- a table with fewer places than there are groups to show, one for each element of the fan, is a bad argument
abbrev pub placed_in : ℕ → Read (List ℕ × ℕ) → Read (List ℕ × ℕ)
placed_in lent (refused n) = refused n
placed_in lent (value gs) = pick (leb (length gs.0) lent) (value gs) (refused argument_refusal)

-- the answer is the number of groups
abbrev pub group_count : Read (List ℕ × ℕ) → Read ℕ
group_count (refused n) = refused n
group_count (value gs) = value gs.1

-- what the lent table shows: the groups, or nothing after a refusal
abbrev pub groups_shown : Read (List ℕ × ℕ) → List ℕ
groups_shown (refused n) = []
groups_shown (value gs) = gs.0

-- the answer to a call of o, and every place of the lent table: the groups, and 0 behind them
pub record GroupsAnswered (o : Read (List ℕ × ℕ)) (lent : ℕ) (r : Result ℕ Refusal) (table : List ℕ) : Type 0 where
  pub answer : answer_in r ≡ group_count (placed_in lent o)
  pub table_is : table ≡ padded lent 0 (groups_shown (placed_in lent o))
