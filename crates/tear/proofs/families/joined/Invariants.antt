-- `tear::families::joined` meets its contract: the loop over the edges is `Joining` of proofs/FamilyLaws.antt. Assumes nothing.
use Prim.Native.Nat.{◌-◌}
use Rattle.tear.proofs.FamilyLaws.{Joining, joining_start, joining_more, joining_found, joining_done}
use borrow.Author.Rules.{rules}
use Rattle.tear.proofs.families.joined.Given as goal

-- `tear::families::joined` meets its contract: the loop over the edges is `Joining` of proofs/FamilyLaws.antt. Assumes nothing.
abbrev pub invariant-loop-i : goal.invariant-loop-i
invariant-loop-i l = Joining l.x l.y l.e l.ends l.i

abbrev pub decreases-loop-i : goal.decreases-loop-i
decreases-loop-i l = l.e - l.i
