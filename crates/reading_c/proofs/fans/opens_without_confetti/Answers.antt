-- `reading_c::fans::opens_without_confetti` meets its contract: few sides are read into a small table, any others into a large one. Assumes nothing.
use native.Mathlib.Omega.{arith}
use Rattle.reading_c.proofs.Siding.{capped_most}
use Rattle.reading_c.proofs.fans.opens_without_confetti.Goals as goal

pub open_in-requires : goal.open_in-requires
open_in-requires c = (c.if-n-le-FEW_SIDES.true, omega arith, c.capped-n.ensures)

pub returns-then-n-le-FEW_SIDES : goal.returns-then-n-le-FEW_SIDES
returns-then-n-le-FEW_SIDES c = c.open_in.ensures

pub open_in-requires-2 : goal.open_in-requires-2
open_in-requires-2 c = (capped_most c.capped-n.ensures, omega arith, c.capped-n.ensures)

pub returns : goal.returns
returns c = c.open_in-2.ensures
