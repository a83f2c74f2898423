use Prim.Native.Nat.{◌+◌, ◌-◌, ◌*◌, ◌≤◌}
use mathlib.Core.Path.{sym, ◌∙◌}
use lib.ListN.{length, length-set, set}
use native.Mathlib.Omega.{arith}
use mathlib.Core.Logic.{⊎_elim}
use lib.Seq.{length-take-le}
use Rattle.tear.proofs.FamilyLaws.{Gathering, gathering_again, gathering_in, gathering_out, gathering_done}
use borrow.Author.Rules.{rules}
use Rattle.tear.proofs.families.family.Given as goal

abbrev pub invariant-loop-i : goal.invariant-loop-i
invariant-loop-i l = Gathering l.a l.l l.log (length l.initial.found) l.found l.r l.i

abbrev pub decreases-loop-i : goal.decreases-loop-i
decreases-loop-i l = l.l - l.i
