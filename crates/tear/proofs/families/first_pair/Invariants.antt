-- `tear::families::first_pair` meets its contract: the loop over the first list is `Pairing` of proofs/FamilyLaws.antt. Assumes nothing.
use Prim.Native.Nat.{◌-◌}
use lib.ListN.{length}
use Rattle.tear.proofs.FamilyLaws.{Pairing, pairing_start, pairing_more, pairing_found, pairing_done}
use borrow.Author.Rules.{rules}
use Rattle.tear.proofs.families.first_pair.Given as goal

-- `tear::families::first_pair` meets its contract: the loop over the first list is `Pairing` of proofs/FamilyLaws.antt. Assumes nothing.
abbrev pub invariant-loop-i : goal.invariant-loop-i
invariant-loop-i l = Pairing l.in_element l.xs l.ys l.k l.n l.verts l.e l.ends l.i

abbrev pub decreases-loop-i : goal.decreases-loop-i
decreases-loop-i l = length l.xs - l.i
