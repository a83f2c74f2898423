-- `tear::ways::offsets` meets its contract: the loop over the row is `Adding` of proofs/WayLaws.antt. Assumes nothing.
use Prim.Native.Nat.{◌-◌}
use lib.ListN.{length}
use lib.Ieee.{of_bits}
use Rattle.tear.proofs.WayLaws.{Adding, adding_start, adding_more, adding_done}
use borrow.Author.Rules.{rules}
use Rattle.tear.proofs.ways.offsets.Given as goal

-- `tear::ways::offsets` meets its contract: the loop over the row is `Adding` of proofs/WayLaws.antt. Assumes nothing.
abbrev pub invariant-loop-i : goal.invariant-loop-i
invariant-loop-i l = Adding l.home l.row l.points l.s l.i

abbrev pub decreases-loop-i : goal.decreases-loop-i
decreases-loop-i l = length l.row - l.i
