-- `elements::strap_table` meets its contract: the invariant is the table of the straps among the edges that were passed. The laws are in proofs/Filling.antt.
use Prim.Native.Nat.{◌≤◌}
use Rattle.elements.proofs.Filling.{Strapping}
use Rattle.elements.proofs.strap_table.Given as goal

-- `elements::strap_table` meets its contract: the invariant is the table of the straps among the edges that were passed. The laws are in proofs/Filling.antt.
abbrev pub invariant-loop-i : goal.invariant-loop-i
invariant-loop-i l = Strapping l.ends l.lengths l.i l.n l.o l.initial.numbers l.initial.verts l.initial.measures l.numbers l.verts l.measures × (l.i ≤ l.e)
