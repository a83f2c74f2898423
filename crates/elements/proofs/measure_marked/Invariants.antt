-- `elements::measure_marked` meets its contract: the invariant is the sum over the elements that were passed. The laws are in proofs/Measures.antt.
use Rattle.elements.proofs.Measures.{Passing}
use Rattle.elements.proofs.measure_marked.Given as goal

-- `elements::measure_marked` meets its contract: the invariant is the sum over the elements that were passed. The laws are in proofs/Measures.antt.
abbrev pub invariant-loop-i : goal.invariant-loop-i
invariant-loop-i l = Passing l.k l.n l.verts l.measures l.marks l.i l.a l.s
