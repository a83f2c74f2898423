-- `link_changes::lower` meets its contract: the numbers passed are less (`Lowering` of proofs/Dropped.antt). Assumes nothing.
use Rattle.link_changes.proofs.Dropped.{Lowering, lowering_more}
use lib.ListN.{length}
use mathlib.Core.Path.{refl}
use native.Mathlib.Omega.{arith}
use native.Mathlib.Nat.{not-suc-le-zero}
use Prim.Native.Nat.{zero-le, ◌-◌}
use Rattle.link_changes.proofs.lower.Goals as goal

pub loop-x-init : goal.loop-x-init
loop-x-init c = record { long = refl; below = zero-le; done = λ j h. absurd (not-suc-le-zero h); left = λ j h. refl }

pub bounds-table-x : goal.bounds-table-x
bounds-table-x c = (omega arith)

pub bounds-table-x-in-loop-x : goal.bounds-table-x-in-loop-x
bounds-table-x-in-loop-x c = (omega arith)

pub loop-x-preserved : goal.loop-x-preserved
loop-x-preserved c = lowering_more _ _ _ _ _ c.loop-x.invariant (omega arith) c.less_one.ensures

pub shape_of-table : goal.shape_of-table
shape_of-table c = c.loop-x.invariant.long

pub returns : goal.returns
returns c = record { at = λ j h. c.loop-x.invariant.done j (omega (arith, c.loop-x-test.false, c.loop-x.invariant.long)) }
