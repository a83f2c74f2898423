-- `reach::queue_group` meets its contract. The invariant: the rows of the group below j are marked, and f of those rows hold v. Assumes nothing.
use mathlib.Core.Path.{◌≡◌}
use Prim.Native.Nat.{◌≤◌}
use lib.ListN.{length}
use Rattle.reach.specs.Walk.{holds_row, tally, seeds, Spread}
use Rattle.reach.proofs.Queues.{upto}
use Rattle.reach.proofs.queue_group.Given as goal

-- `reach::queue_group` meets its contract. The invariant: the rows of the group below j are marked, and f of those rows hold v. Assumes nothing.
abbrev pub invariant-loop-j : goal.invariant-loop-j
invariant-loop-j l =
    (l.j ≤ l.n) × (l.f ≡ tally (holds_row l.k l.v l.verts) l.j) × (length l.seen ≡ length l.initial.seen) × (length l.queue ≡ length l.initial.queue)
    × Spread l.n (upto (seeds l.k l.v l.verts l.groups l.g) l.j) l.initial.seen l.initial.queue 0 l.seen l.queue l.end
