-- `boundary::entries::side_copy` meets its contract: the copy of the group that the entry follows. Assumes nothing.
use Rattle.boundary.proofs.BoundaryLaws.{copy_at, copy_small}
use native.Mathlib.Omega.{arith}
use Rattle.boundary.proofs.entries.side_copy.Goals as goal

-- `boundary::entries::side_copy` meets its contract: the copy of the group that the entry follows. Assumes nothing.
pub side_group-g-requires : goal.side_group-g-requires
side_group-g-requires c = c.requires.0

pub copy_for-requires : goal.copy_for-requires
copy_for-requires c = (c.requires.1.some, omega (arith, copy_small c.requires.1 c.side_group-g.ensures))

pub returns : goal.returns
returns c = copy_at c.requires.1 c.requires.2 c.side_group-g.ensures c.copy_for.ensures
