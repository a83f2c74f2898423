-- `columns::row_holds` meets its contract. The laws are in proofs/RowLaws.antt. Assumes nothing.
use Rattle.columns.proofs.RowLaws.{Looking}
use Rattle.columns.proofs.row_holds.Given as goal

-- `columns::row_holds` meets its contract. The laws are in proofs/RowLaws.antt. Assumes nothing.
abbrev pub invariant-loop-c : goal.invariant-loop-c
invariant-loop-c l = Looking l.k l.size l.i l.v l.s l.c l.o
