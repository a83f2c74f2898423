-- `tear::families::first_met` meets its contract: the loop over the list is `Meeting` of proofs/FamilyLaws.antt. Assumes nothing.
use Prim.Native.Nat.{◌-◌}
use lib.ListN.{length}
use Rattle.tear.proofs.FamilyLaws.{Meeting, meeting_start, meeting_more, meeting_found, meeting_done}
use borrow.Author.Rules.{rules}
use Rattle.tear.proofs.families.first_met.Given as goal

-- `tear::families::first_met` meets its contract: the loop over the list is `Meeting` of proofs/FamilyLaws.antt. Assumes nothing.
abbrev pub invariant-loop-j : goal.invariant-loop-j
invariant-loop-j l = Meeting l.in_element l.x l.ys l.k l.n l.verts l.e l.ends l.j
