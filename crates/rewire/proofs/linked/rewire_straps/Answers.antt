-- `rewire::linked::rewire_straps` meets its contract: the loop is `Moving` of proofs/FanLaws.antt, with the table of the block so far (proofs/LinkedLaws.antt). Assumes nothing.
use Rattle.links.specs.Linked.{EdgesLinked}
use Rattle.rewire.proofs.FanLaws.{Moving, moving_start, moving_done}
use Rattle.rewire.proofs.LinkedLaws.{strap_room, strap_on}
use lib.ListN.{length}
use mathlib.Core.Path.{◌≡◌, refl, ◌∙◌}
use native.Mathlib.Omega.{arith}
use Prim.Native.Nat.{◌-◌}
use Rattle.rewire.proofs.linked.rewire_straps.Goals as goal

pub loop-i-init : goal.loop-i-init
loop-i-init c = (moving_start _ _ _ _ _ _, c.requires.linked, refl)

pub copy_for-w-requires : goal.copy_for-w-requires
copy_for-w-requires c = (c.requires.parts.some, c.requires.parts.small _ c.loop-i-test.true)

pub move_end-requires : goal.move_end-requires
move_end-requires c = strap_room c.requires _ _ c.loop-i.invariant.0 c.loop-i-test.true c.loop-i.invariant.1 c.copy_for-w.ensures

pub loop-i-preserved : goal.loop-i-preserved
loop-i-preserved c = (strap_on c.requires _ _ c.loop-i.invariant.0 c.loop-i-test.true _ c.copy_for-w.ensures c.move_end.ensures.0 c.move_end.auto.ends, c.move_end.ensures.1, c.move_end.auto.table ∙ c.loop-i.invariant.2)

pub shape_of-ends : goal.shape_of-ends
shape_of-ends c = c.loop-i.invariant.0.long

pub shape_of-table : goal.shape_of-table
shape_of-table c = c.loop-i.invariant.2

pub returns : goal.returns
returns c = (moving_done _ _ _ _ _ _ _ _ c.requires.parts c.loop-i.invariant.0 c.loop-i-test.false, c.loop-i.invariant.1)
