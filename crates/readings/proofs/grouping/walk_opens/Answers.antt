-- `readings::grouping::walk_opens` meets its contract: few elements by small tables, any others by large ones. Assumes nothing.
use native.Mathlib.Omega.{arith}
use Rattle.readings.proofs.grouping.walk_opens.Goals as goal

-- `readings::grouping::walk_opens` meets its contract: few elements by small tables, any others by large ones. Assumes nothing.
pub opens_in-requires : goal.opens_in-requires
opens_in-requires c = let P = c.requires in
    let w = P.1 128 c.if-n-le-FEW_ELEMENTS.true in
    (P.0, omega arith, w.0, w.1)

pub returns-then-n-le-FEW_ELEMENTS : goal.returns-then-n-le-FEW_ELEMENTS
returns-then-n-le-FEW_ELEMENTS c = c.opens_in.ensures

pub opens_in-requires-2 : goal.opens_in-requires-2
opens_in-requires-2 c = let P = c.requires in
    let w = P.1 2048 P.2 in
    (P.0, omega arith, w.0, w.1)

pub returns : goal.returns
returns c = c.opens_in-2.ensures
