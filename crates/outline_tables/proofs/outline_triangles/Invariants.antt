-- `outline::outline_triangles` meets its contract. The invariant: the faces of the first i triangles are added, and the corners stay linked. Assumes nothing.
use mathlib.Core.Path.{◌≡◌}
use Prim.Native.Nat.{◌*◌, ◌≤◌}
use lib.ListN.{length}
use Rattle.outline_tables.specs.Rows.{Added}
use Rattle.outline_tables.specs.Links.{Linked}
use Rattle.outline_tables.proofs.Adding.{faces_to}
use Rattle.outline_tables.proofs.outline_triangles.Given as goal

-- `outline::outline_triangles` meets its contract. The invariant: the faces of the first i triangles are added, and the corners stay linked. Assumes nothing.
abbrev pub invariant-loop-i : goal.invariant-loop-i
invariant-loop-i l = (l.i ≤ length l.a) × (l.n ≤ 3 * l.i) × (length l.outline ≡ length l.initial.outline) × Added (faces_to l.a l.b l.c l.i) l.initial.outline l.outline 0 l.n × Linked l.a l.b l.c l.m l.heads l.links × (length l.sizes ≡ 1024)
