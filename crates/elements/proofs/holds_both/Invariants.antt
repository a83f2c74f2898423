-- `elements::holds_both` meets its contract: the invariant is that some element holds both where one of the rest does. The laws are in proofs/Held.antt.
use Rattle.elements.proofs.Held.{Seeking}
use Rattle.elements.proofs.holds_both.Given as goal

-- `elements::holds_both` meets its contract: the invariant is that some element holds both where one of the rest does. The laws are in proofs/Held.antt.
abbrev pub invariant-loop-i : goal.invariant-loop-i
invariant-loop-i l = Seeking l.x l.y l.k l.n l.verts l.i l.a
