-- `outline::single_side` meets its contract. The invariant: n tells how many of the first i triangles hold the side, up to 2. Assumes nothing.
use mathlib.Core.Path.{◌≡◌}
use Prim.Native.Nat.{◌+◌, ◌≤◌, min}
use lib.ListN.{length}
use Rattle.outline_tables.specs.Links.{held_to}
use Rattle.outline_tables.proofs.single_side.Given as goal

-- `outline::single_side` meets its contract. The invariant: n tells how many of the first i triangles hold the side, up to 2. Assumes nothing.
abbrev pub invariant-loop-i : goal.invariant-loop-i
invariant-loop-i l = (l.i ≤ length l.a) × (l.n ≤ l.i + 2) × (min 2 l.n ≡ min 2 (held_to l.a l.b l.c l.x l.y l.i))
