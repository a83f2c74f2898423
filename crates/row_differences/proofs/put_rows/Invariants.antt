-- `row_differences::put_rows` meets its contract: one place a turn, to the end of the longer list. Assumes nothing.
use Rattle.row_differences.proofs.Walking.{Walked}
use Rattle.row_differences.specs.Work.{rows_in}
use Prim.Native.Nat.{◌-◌}
use Rattle.row_differences.proofs.put_rows.Given as goal

-- `row_differences::put_rows` meets its contract: one place a turn, to the end of the longer list. Assumes nothing.
abbrev pub invariant-loop-k : goal.invariant-loop-k
invariant-loop-k l = Walked l.part (rows_in l.part l.a l.b l.c) (rows_in l.part l.x l.y l.z) l.n l.initial.out l.initial.l l.out l.l l.k
