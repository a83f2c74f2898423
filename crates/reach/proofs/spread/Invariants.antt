-- `reach::spread` meets its contract. The invariant: what the rows below j ask for is done. Assumes nothing.
use mathlib.Core.Path.{◌≡◌}
use Prim.Native.Nat.{◌≤◌}
use lib.ListN.{length}
use Rattle.reach.specs.Walk.{touching, Spread}
use Rattle.reach.proofs.Queues.{upto}
use Rattle.reach.proofs.spread.Given as goal

-- `reach::spread` meets its contract. The invariant: what the rows below j ask for is done. Assumes nothing.
abbrev pub invariant-loop-j : goal.invariant-loop-j
invariant-loop-j l =
    (l.j ≤ l.n) × (length l.seen ≡ length l.initial.seen) × (length l.queue ≡ length l.initial.queue) × Spread l.n (upto (touching l.k l.v l.verts l.i) l.j) l.initial.seen l.initial.queue l.tail l.seen l.queue l.end
