-- `reading_c::questions::ask_groups` meets its contract: few sides are asked about in a small table, any others in a large one. Assumes nothing.
use native.Mathlib.Omega.{arith}
use Rattle.reading_c.proofs.questions.ask_groups.Goals as goal

pub groups_in-requires : goal.groups_in-requires
groups_in-requires c = (c.if-list-le-FEW_SIDES.true, omega arith)

pub returns-then-list-le-FEW_SIDES : goal.returns-then-list-le-FEW_SIDES
returns-then-list-le-FEW_SIDES c = c.groups_in.ensures

pub groups_in-requires-2 : goal.groups_in-requires-2
groups_in-requires-2 c = (c.requires, omega arith)

pub returns : goal.returns
returns c = c.groups_in-2.ensures
