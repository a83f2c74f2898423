-- `crack::body::narrow` meets its contract: the loop is `Copying` of columns' proofs/Sweep.antt. Assumes nothing.
use Prim.Native.Nat.{◌-◌}
use lib.ListN.{length}
use Rattle.columns.proofs.Sweep.{Copying}
use Rattle.crack.proofs.body.narrow.Given as goal

-- `crack::body::narrow` meets its contract: the loop is `Copying` of columns' proofs/Sweep.antt. Assumes nothing.
abbrev pub invariant-loop-i : goal.invariant-loop-i
invariant-loop-i l = Copying l.src l.initial.dst l.dst l.i

abbrev pub decreases-loop-i : goal.decreases-loop-i
decreases-loop-i l = length l.src - l.i
