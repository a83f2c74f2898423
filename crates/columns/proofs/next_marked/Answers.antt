-- `columns::next_marked` meets its contract: it passes the places that are not marked. The laws are in proofs/Keep.antt.
use native.Mathlib.Omega.{arith}
use Rattle.columns.proofs.Keep.{pass_start, pass_more, pass_stop, pass_end}
use Rattle.columns.proofs.next_marked.Goals as goal

pub loop-i-init : goal.loop-i-init
loop-i-init c = pass_start _ _ _ (omega arith)

pub returns-then-mask-i-eq1 : goal.returns-then-mask-i-eq1
returns-then-mask-i-eq1 c = pass_stop _ _ _ _ c.loop-i.invariant c.loop-i-test.true c.if-mask-i-eq1.true

pub loop-i-preserved : goal.loop-i-preserved
loop-i-preserved c = pass_more _ _ _ _ c.loop-i.invariant c.loop-i-test.true c.if-mask-i-eq1.false

pub returns : goal.returns
returns c = pass_end _ _ _ _ c.loop-i.invariant c.loop-i-test.false
