-- `tear::loads::linked_loads` meets its contract: the loop over the triangles is `Reading` of proofs/LoadLaws.antt. Assumes nothing.
use Prim.Native.Nat.{◌-◌}
use native.Mathlib.Omega.{arith}
use Rattle.tear.proofs.LoadLaws.{Reading, reading_start, reading_more, reading_done}
use borrow.Author.Rules.{rules}
use Rattle.tear.proofs.loads.linked_loads.Given as goal

-- `tear::loads::linked_loads` meets its contract: the loop over the triangles is `Reading` of proofs/LoadLaws.antt. Assumes nothing.
abbrev pub invariant-loop-i : goal.invariant-loop-i
invariant-loop-i l = Reading l.t l.e l.corners l.volumes l.ends l.lengths l.initial.loads l.loads l.i

abbrev pub decreases-loop-i : goal.decreases-loop-i
decreases-loop-i l = l.t - l.i
