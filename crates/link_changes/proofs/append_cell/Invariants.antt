-- `link_changes::append_cell` meets its contract: the invariant is the new cell in the chains of the corners passed (`Appending` of proofs/Appended.antt). Assumes nothing.
use Rattle.link_changes.proofs.Appended.{Appending, appending_start, appending_column, appending_corner, appending_room, appending_more, appending_done}
use Rattle.columns.specs.Block.{cell}
use Prim.Native.Nat.{◌-◌}
use lib.ListN.{length}
use native.Mathlib.Omega.{arith}
use Rattle.link_changes.proofs.append_cell.Given as goal

-- `link_changes::append_cell` meets its contract: the invariant is the new cell in the chains of the corners passed (`Appending` of proofs/Appended.antt). Assumes nothing.
abbrev pub invariant-loop-c : goal.invariant-loop-c
invariant-loop-c l = Appending l.heads l.k l.span l.rows l.n (cell 0 l.rows l.corners) (length l.initial.table) l.table l.c l.o
