-- The corners of cells after a split, and what the function of this crate asks. Names and letters as in links/specs. Definitions only.
use Rattle.std.specs.Prelude.{ℕ, ◌<◌, ◌≤◌, ◌≡◌, List, length, get_or}
use Rattle.columns.specs.Block.{cell}
use Rattle.model.specs.Split.{copy_for_of}
use Rattle.lists.specs.Labels.{replaced}
use Rattle.mesh.specs.Workers.{group_of}
use Rattle.links.specs.Links.{cells_of, LinksOf}
use Rattle.links.specs.Rooms.{LinkRoom, CornersApart}

-- the corners after a split at v: the cells of a fan have the copies of their groups for v
unfoldable pub corner_after : ℕ → ℕ → List ℕ → List ℕ → (ℕ → ℕ → ℕ) → ℕ → ℕ → ℕ
corner_after v before numbers groups corner c i = replaced v (copy_for_of v before (group_of numbers groups i)) (corner c i)

-- a split at v of the fan of these numbers, with so many particles before it: the table is that of n cells, and each group's copy has a head in it
pub record SplitRoom (v before P k R S n : ℕ) (numbers groups corners table : List ℕ) : Type 0 where
  pub room : LinkRoom P k R S n (length corners) (length table)
  pub linked : LinksOf P k R n (cell 0 S corners) table
  pub apart : CornersApart before k n (cell 0 S corners)
  pub here : v < before
  pub most : before ≤ P
  pub few : P ≤ 65536
  pub fan : numbers ≡ cells_of k n (cell 0 S corners) v
  pub paired : length numbers ≡ length groups
  pub copies : (i : ℕ) → i < length numbers → copy_for_of v before (get_or groups i 0) < P
