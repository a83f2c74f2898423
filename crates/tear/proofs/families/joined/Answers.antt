-- `tear::families::joined` meets its contract: the loop over the edges is `Joining` of proofs/FamilyLaws.antt. Assumes nothing.
use Prim.Native.Nat.{◌-◌}
use Rattle.tear.proofs.FamilyLaws.{Joining, joining_start, joining_more, joining_found, joining_done}
use borrow.Author.Rules.{rules}
use Rattle.tear.proofs.families.joined.Goals as goal

pub loop-i-init : goal.loop-i-init
loop-i-init c = joining_start _ _ _ _

pub returns-then-joins : goal.returns-then-joins
returns-then-joins c = joining_found _ _ _ _ _ c.loop-i.invariant c.loop-i-test.true _ c.joins.ensures c.if-joins.true

pub loop-i-preserved : goal.loop-i-preserved
loop-i-preserved c = joining_more _ _ _ _ _ c.loop-i.invariant c.loop-i-test.true _ c.joins.ensures c.if-joins.false

pub returns : goal.returns
returns c = joining_done _ _ _ _ _ c.loop-i.invariant (search rules)
