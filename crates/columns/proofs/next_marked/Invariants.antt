-- `columns::next_marked` meets its contract: it passes the places that are not marked. The laws are in proofs/Keep.antt.
use Rattle.columns.proofs.Keep.{Passing}
use Rattle.columns.proofs.next_marked.Given as goal

-- `columns::next_marked` meets its contract: it passes the places that are not marked. The laws are in proofs/Keep.antt.
abbrev pub invariant-loop-i : goal.invariant-loop-i
invariant-loop-i l = Passing l.mask l.from l.n l.i
