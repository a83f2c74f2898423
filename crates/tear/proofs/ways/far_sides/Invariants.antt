-- `tear::ways::far_sides` meets its contract: the loop over the rows is `Siding` of proofs/WayLaws.antt. Assumes nothing.
use Prim.Native.Nat.{◌+◌, ◌-◌, ◌≤◌}
use native.Mathlib.Omega.{arith}
use lib.ListN.{length}
use Rattle.tear.proofs.WayLaws.{Siding, siding_start, siding_more, siding_done, row_reads, row_under}
use borrow.Author.Rules.{rules}
use Rattle.tear.proofs.ways.far_sides.Given as goal

-- `tear::ways::far_sides` meets its contract: the loop over the rows is `Siding` of proofs/WayLaws.antt. Assumes nothing.
abbrev pub invariant-loop-i : goal.invariant-loop-i
invariant-loop-i l = Siding l.home l.dir l.n l.k l.verts l.points (length l.initial.sides) l.sides l.i l.a

abbrev pub decreases-loop-i : goal.decreases-loop-i
decreases-loop-i l = l.n - l.i
