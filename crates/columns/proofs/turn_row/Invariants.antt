-- `columns::turn_row` meets its contract. The laws are in proofs/RowLaws.antt. Assumes nothing.
use Rattle.columns.proofs.RowLaws.{Turning}
use Rattle.columns.proofs.turn_row.Given as goal

-- `columns::turn_row` meets its contract. The laws are in proofs/RowLaws.antt. Assumes nothing.
abbrev pub invariant-loop-c : goal.invariant-loop-c
invariant-loop-c l = Turning l.k l.size l.i l.v l.w l.initial.s l.s l.c l.o
