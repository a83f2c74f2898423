-- Only proofs need this file: the groups where no corner need be shared, which are the sides.
use Rattle.std.specs.Prelude.{◌≡◌, List, ℕ, ◌+◌, ◌*◌, ◌<◌, length, get_or}
use Rattle.lists.specs.Lists.{pick, stands}

-- how many groups the elements of side s are, where no corner need be shared: 1, or 0 where there is none
unfoldable pub groups_on_of : ℕ → List ℕ → ℕ
groups_on_of s sides = pick (stands s sides) 1 0

-- the groups are the sides, but for a side that has none
pub record Sided (sides groups : List ℕ) (n : ℕ) : Type 0 where
  pub long : length groups ≡ length sides
  pub each : (a : ℕ) → a < length sides → get_or groups a 0 ≡ get_or sides a 0 * groups_on_of 0 sides
  pub count : n ≡ groups_on_of 0 sides + groups_on_of 1 sides
