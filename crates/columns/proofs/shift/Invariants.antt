-- `columns::shift` meets its contract: it moves a place a turn. The laws are in proofs/Blocks.antt.
use Rattle.columns.proofs.Blocks.{Shifting}
use Rattle.columns.proofs.shift.Given as goal

abbrev pub invariant-loop-i : goal.invariant-loop-i
invariant-loop-i g l = (d : _) → Shifting d l.to l.from l.initial.s l.s l.i
