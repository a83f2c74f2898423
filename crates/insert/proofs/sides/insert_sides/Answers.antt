use borrow.Author.Rules.{rules}
use Prim.Native.Nat.{◌-◌}
use native.Mathlib.Omega.{arith}
use mathlib.Core.Path.{◌∙◌}
use Rattle.insert.proofs.SideLaws.{SidePassing, side_start, side_step, side_lacks, side_done}
use Rattle.insert.proofs.sides.insert_sides.Goals as goal

-- src/sides.rt:80:5
pub loop-i-init : goal.loop-i-init
loop-i-init c = side_start _ _ _ _ _ _ _ c.requires.rows

-- src/sides.rt:81:13
pub insert_side-requires : goal.insert_side-requires
insert_side-requires c = let L = c.loop-i.invariant in
    (record { rows = c.loop-i.invariant.most; columns = omega (arith, c.loop-i.invariant.long, c.requires.columns) }, omega (arith, c.loop-i.invariant.least, c.loop-i-test.true))

-- src/sides.rt:83:13
pub shape_of-outline-in_err-rows : goal.shape_of-outline-in_err-rows
shape_of-outline-in_err-rows c = c.insert_side.auto.outline ∙ c.loop-i.invariant.long

-- src/sides.rt:83:13
pub returns-in_err-rows : goal.returns-in_err-rows
returns-in_err-rows c = rw c.from_residual.ensures (side_lacks _ _ _ _ _ _ _ _ _ _ c.loop-i.invariant c.loop-i-test.true c.insert_side.result _ c.insert_side.ensures c.in_err-rows.was)

-- src/sides.rt:80:5
pub loop-i-preserved : goal.loop-i-preserved
loop-i-preserved c = side_step _ _ _ _ _ _ _ _ _ _ c.loop-i.invariant c.loop-i-test.true c.insert_side.result _ c.insert_side.ensures _ c.in_ok-rows.was c.insert_side.auto.outline

-- src/sides.rt:66:1
pub shape_of-outline : goal.shape_of-outline
shape_of-outline c = c.loop-i.invariant.long

-- src/sides.rt:66:1
pub returns : goal.returns
returns c = side_done _ _ _ _ _ _ _ _ _ _ c.loop-i.invariant c.loop-i-test.false
