-- `tear::families::first_met` meets its contract: the loop over the list is `Meeting` of proofs/FamilyLaws.antt. Assumes nothing.
use Prim.Native.Nat.{◌-◌}
use mathlib.Core.Path.{◌≡◌}
use lib.ListN.{length}
use Rattle.tear.proofs.FamilyLaws.{Meeting, meeting_start, meeting_more, meeting_found, meeting_done}
use borrow.Author.Rules.{rules}
use Rattle.tear.proofs.families.first_met.Goals as goal

pub loop-j-init : goal.loop-j-init
loop-j-init c = meeting_start _ _ _ _ _ _ _ _

pub returns-then-meets : goal.returns-then-meets
returns-then-meets c = meeting_found _ _ _ _ _ _ _ _ _ c.loop-j.invariant c.loop-j-test.true _ c.meets.ensures c.if-meets.true

pub loop-j-preserved : goal.loop-j-preserved
loop-j-preserved c = meeting_more _ _ _ _ _ _ _ _ _ c.loop-j.invariant c.loop-j-test.true _ c.meets.ensures c.if-meets.false

pub returns : goal.returns
returns c =
    let e : c.loop-j.j ≡ length c.args.ys.now = search rules in
    rw (← e) (meeting_done _ _ _ _ _ _ _ _ _ c.loop-j.invariant (search rules))
