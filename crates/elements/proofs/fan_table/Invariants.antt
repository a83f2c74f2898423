-- `elements::fan_table` meets its contract: the invariant is the table of the rows among those passed that hold v. The laws are in proofs/Fans.antt.
use Rattle.elements.proofs.Fans.{Fanning}
use Rattle.elements.proofs.fan_table.Given as goal

-- `elements::fan_table` meets its contract: the invariant is the table of the rows among those passed that hold v. The laws are in proofs/Fans.antt.
abbrev pub invariant-loop-i : goal.invariant-loop-i
invariant-loop-i l = Fanning l.v l.k l.n l.numbers l.verts l.measures l.i l.a l.r l.o l.initial.fan_numbers l.initial.fan_verts l.initial.fan_measures l.fan_numbers l.fan_verts l.fan_measures
