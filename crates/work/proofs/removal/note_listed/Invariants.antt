-- `work::removal::note_listed` meets its contract: the loop over the list is `ListNoting` of proofs/Removals.antt. Assumes nothing.
use Prim.Native.Nat.{◌-◌}
use Rattle.work.proofs.Removals.{ListNoting}
use Rattle.work.proofs.removal.note_listed.Given as goal

-- `work::removal::note_listed` meets its contract: the loop over the list is `ListNoting` of proofs/Removals.antt. Assumes nothing.
abbrev pub invariant-loop-i : goal.invariant-loop-i
invariant-loop-i l = ListNoting l.list l.s l.at l.ends l.initial.log l.log l.i

abbrev pub decreases-loop-i : goal.decreases-loop-i
decreases-loop-i l = l.s - l.i
