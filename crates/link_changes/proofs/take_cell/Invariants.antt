-- `link_changes::take_cell` meets its contract: the invariant is the cell out of the chains of the corners passed (`Leaving` of proofs/Dropped.antt). Assumes nothing.
use Rattle.link_changes.proofs.Dropped.{Leaving, leaving_start, leaving_column, leaving_corner, leaving_room, leaving_more, leaving_done}
use Rattle.columns.specs.Block.{cell}
use Prim.Native.Nat.{◌-◌}
use lib.ListN.{length}
use native.Mathlib.Omega.{arith}
use Rattle.link_changes.proofs.take_cell.Given as goal

-- `link_changes::take_cell` meets its contract: the invariant is the cell out of the chains of the corners passed (`Leaving` of proofs/Dropped.antt). Assumes nothing.
abbrev pub invariant-loop-c : goal.invariant-loop-c
invariant-loop-c l = Leaving l.heads l.k l.span l.rows l.n l.i (cell 0 l.rows l.corners) (length l.initial.table) l.table l.c l.o
