-- `reading_c::fans::groups` meets its contract: few sides are read into a small table, any others into a large one. Assumes nothing.
use Rattle.reading_c.proofs.fans.groups.Goals as goal

-- `reading_c::fans::groups` meets its contract: few sides are read into a small table, any others into a large one. Assumes nothing.
pub few_sides-requires : goal.few_sides-requires
few_sides-requires c = c.if-sides-le-FEW_SIDES.true

pub returns-then-sides-le-FEW_SIDES : goal.returns-then-sides-le-FEW_SIDES
returns-then-sides-le-FEW_SIDES c = c.few_sides.ensures

pub returns : goal.returns
returns c = c.many_sides.ensures
