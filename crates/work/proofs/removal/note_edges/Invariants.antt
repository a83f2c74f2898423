-- `work::removal::note_edges` meets its contract: the loop over the edges is `Noting` of proofs/PieceMasks.antt. Assumes nothing.
use Rattle.work.proofs.Removals.{Noting}
use Prim.Native.Nat.{◌-◌}
use Rattle.work.proofs.removal.note_edges.Given as goal

-- `work::removal::note_edges` meets its contract: the loop over the edges is `Noting` of proofs/PieceMasks.antt. Assumes nothing.
abbrev pub invariant-loop-i : goal.invariant-loop-i
invariant-loop-i l = Noting l.mask l.n l.at l.ends l.initial.log l.log l.w l.i

abbrev pub decreases-loop-i : goal.decreases-loop-i
decreases-loop-i l = l.n - l.i
