-- `image_elements::triangle_rows` meets its contract: the invariant is the table of the triangles that were passed. The laws are in proofs/Rows.antt.
use Prim.Native.Nat.{◌-◌, ◌≤◌}
use native.Mathlib.Omega.{arith}
use lib.ListN.{length-set}
use Rattle.elements.proofs.Filling.{triangling_start, triangling_done}
use Rattle.image_elements.proofs.Rows.{TriangleRows, triangle_row}
use Rattle.image_elements.proofs.triangle_rows.Given as goal

-- `image_elements::triangle_rows` meets its contract: the invariant is the table of the triangles that were passed. The laws are in proofs/Rows.antt.
abbrev pub invariant-loop-i : goal.invariant-loop-i
invariant-loop-i l = TriangleRows l.bytes l.at l.t l.i l.o l.initial.numbers l.initial.verts l.initial.measures l.numbers l.verts l.measures × (l.i ≤ l.t)
