-- `reach::reaches` meets its contract. The invariant: the walk has gone through the first head rows of the queue. Assumes nothing.
use mathlib.Core.Path.{◌≡◌}
use Prim.Native.Nat.{◌-◌}
use lib.ListN.{length}
use Rattle.reach.specs.Walk.{touching, Walk}
use Rattle.reach.proofs.reaches.Given as goal

-- `reach::reaches` meets its contract. The invariant: the walk has gone through the first head rows of the queue. Assumes nothing.
abbrev pub invariant-loop-head : goal.invariant-loop-head
invariant-loop-head l = (length l.seen ≡ length l.initial.seen) × (length l.queue ≡ length l.initial.queue) × Walk (touching l.k l.v l.verts) l.n l.initial.seen l.seen l.queue l.head l.end

abbrev pub decreases-loop-head : goal.decreases-loop-head
decreases-loop-head l = l.n - l.head
