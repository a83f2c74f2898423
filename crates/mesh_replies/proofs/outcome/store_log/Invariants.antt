-- `mesh_replies::outcome::store_log` meets its contract: one word more a turn. Assumes nothing.
use Prim.Native.Nat.{◌-◌}
use lib.ListN.{length}
use Rattle.image_writing.proofs.Puts.{Putting}
use Rattle.mesh_replies.proofs.outcome.store_log.Given as goal

-- `mesh_replies::outcome::store_log` meets its contract: one word more a turn. Assumes nothing.
abbrev pub invariant-loop-i : goal.invariant-loop-i
invariant-loop-i l = Putting (λ l. l) l.at l.words l.initial.log l.log l.i

abbrev pub decreases-loop-i : goal.decreases-loop-i
decreases-loop-i l = length l.words - l.i
