-- `tear::families::first_pair` meets its contract: the loop over the first list is `Pairing` of proofs/FamilyLaws.antt. Assumes nothing.
use Prim.Native.Nat.{◌-◌}
use lib.ListN.{length}
use Rattle.tear.proofs.FamilyLaws.{Pairing, pairing_start, pairing_more, pairing_found, pairing_done}
use borrow.Author.Rules.{rules}
use Rattle.tear.proofs.families.first_pair.Goals as goal

pub loop-i-init : goal.loop-i-init
loop-i-init c = pairing_start _ _ _ _ _ _ _ _

pub returns-then-j-ys : goal.returns-then-j-ys
returns-then-j-ys c = pairing_found _ _ _ _ _ _ _ _ _ c.loop-i.invariant c.loop-i-test.true _ c.first_met-j.ensures c.if-j-ys.true

pub loop-i-preserved : goal.loop-i-preserved
loop-i-preserved c = pairing_more _ _ _ _ _ _ _ _ _ c.loop-i.invariant c.loop-i-test.true _ c.first_met-j.ensures (search rules)

pub returns : goal.returns
returns c = pairing_done _ _ _ _ _ _ _ _ _ c.loop-i.invariant (search rules)
