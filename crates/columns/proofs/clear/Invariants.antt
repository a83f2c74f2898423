-- `columns::clear` meets its contract: it clears one column behind its front. The laws are in proofs/Sweep.antt.
use Rattle.columns.proofs.Sweep.{Clearing}
use Rattle.columns.proofs.clear.Given as goal

abbrev pub invariant-loop-i : goal.invariant-loop-i
invariant-loop-i g l = Clearing l.n l.zero l.initial.s l.s l.i
