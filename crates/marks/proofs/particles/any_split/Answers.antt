-- `marks::particles::any_split` meets its contract. The invariant: no entry so far tells of a split. Assumes nothing.
use Rattle.marks.proofs.MarkLaws.{split_none, split_on, split_here, split_found}
use Rattle.marks.specs.Marking.{split_words}
use Rattle.mesh.specs.Log.{entry_row}
use Rattle.lists.specs.Lists.{any, tab}
use Prim.Native.Nat.{◌≤◌, ◌-◌}
use mathlib.Core.Bool.{false}
use mathlib.Core.Path.{◌≡◌}
use native.Mathlib.Omega.{arith}
use Rattle.marks.proofs.particles.any_split.Goals as goal

pub loop-i-init : goal.loop-i-init
loop-i-init c = (omega arith, split_none c.args.log.now)

pub returns-then-log-at-eq1 : goal.returns-then-log-at-eq1
returns-then-log-at-eq1 c = split_here c.args.log.now c.args.l c.loop-i.i c.loop-i-test.true c.if-log-at-eq1.true

pub loop-i-preserved : goal.loop-i-preserved
loop-i-preserved c = (omega arith, split_on c.args.log.now c.loop-i.i c.if-log-at-eq1.false c.loop-i.invariant.1)

pub returns : goal.returns
returns c = split_found c.args.l c.loop-i.i c.args.log.now _ (omega arith) c.loop-i.invariant.1
