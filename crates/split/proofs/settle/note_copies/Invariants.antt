-- `split::settle::note_copies` meets its contract: the loop is `Copying` of proofs/NoteLaws.antt. Assumes nothing.
use Rattle.split.proofs.NoteLaws.{Copying, copying_start, copying_step, copying_done}
use native.Mathlib.Omega.{arith}
use Prim.Native.Nat.{◌-◌}
use Rattle.split.proofs.settle.note_copies.Given as goal

-- `split::settle::note_copies` meets its contract: the loop is `Copying` of proofs/NoteLaws.antt. Assumes nothing.
abbrev pub invariant-loop-i : goal.invariant-loop-i
invariant-loop-i l = Copying l.v l.before l.m l.at l.initial.log l.log l.i

abbrev pub decreases-loop-i : goal.decreases-loop-i
decreases-loop-i l = l.m - l.i
