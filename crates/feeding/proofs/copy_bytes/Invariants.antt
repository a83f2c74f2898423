-- `feeding::copy_bytes` meets its contract. The invariant: the places before i are copied, and the others stand. Assumes nothing.
use Rattle.columns.proofs.Sweep.{Copying}
use Rattle.feeding.proofs.copy_bytes.Given as goal

abbrev pub invariant-loop-i : goal.invariant-loop-i
invariant-loop-i l = Copying l.src l.initial.dst l.dst l.i
