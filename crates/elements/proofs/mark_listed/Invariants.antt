-- `elements::mark_listed` meets its contract. The invariant: exactly the listed that were passed are marked. Assumes nothing.
use Prim.Native.Nat.{◌≤◌}
use lib.ListN.{length}
use Rattle.elements.proofs.Measures.{Marking}
use Rattle.elements.proofs.mark_listed.Given as goal

-- `elements::mark_listed` meets its contract. The invariant: exactly the listed that were passed are marked. Assumes nothing.
abbrev pub invariant-loop-i : goal.invariant-loop-i
invariant-loop-i l = (l.i ≤ length l.listed) × Marking l.listed l.i l.initial.marks l.marks
