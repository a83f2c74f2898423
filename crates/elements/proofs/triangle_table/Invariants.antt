-- `elements::triangle_table` meets its contract: the invariant is the table of the triangles that were passed. The laws are in proofs/Filling.antt.
use Prim.Native.Nat.{◌≤◌}
use Rattle.elements.proofs.Filling.{Triangling}
use Rattle.elements.proofs.triangle_table.Given as goal

-- `elements::triangle_table` meets its contract: the invariant is the table of the triangles that were passed. The laws are in proofs/Filling.antt.
abbrev pub invariant-loop-i : goal.invariant-loop-i
invariant-loop-i l = Triangling l.corners l.volumes l.i l.o l.initial.numbers l.initial.verts l.initial.measures l.numbers l.verts l.measures × (l.i ≤ l.t)
