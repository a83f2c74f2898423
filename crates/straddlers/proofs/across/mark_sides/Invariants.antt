-- `straddlers::across::mark_sides` meets its contract: the loop over the entries is `Marking` of proofs/PieceMasks.antt. Assumes nothing.
use Rattle.straddlers.proofs.PieceMasks.{sides_read, sides_marked, side_told}
use borrow.Author.Rules.{rules}
use Rattle.work.proofs.Removals.{Marking, marking_start, marking_step}
use Rattle.straddlers.specs.Straddling.{side_crosses}
use Prim.Native.Nat.{◌-◌}
use native.Mathlib.Omega.{arith}
use Rattle.straddlers.proofs.across.mark_sides.Given as goal

-- `straddlers::across::mark_sides` meets its contract: the loop over the entries is `Marking` of proofs/PieceMasks.antt. Assumes nothing.
abbrev pub invariant-loop-i : goal.invariant-loop-i
invariant-loop-i l = Marking (side_crosses l.parent l.used l.outline) l.n l.initial.mask l.mask l.i

abbrev pub decreases-loop-i : goal.decreases-loop-i
decreases-loop-i l = l.n - l.i
