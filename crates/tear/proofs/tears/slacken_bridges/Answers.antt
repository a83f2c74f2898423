-- `tear::tears::slacken_bridges` meets its contract: the loop over the edges is `Slackening` of proofs/TearLaws.antt. Assumes nothing.
use Prim.Native.Nat.{◌-◌}
use native.Mathlib.Omega.{arith}
use mathlib.Core.Logic.{⊎_elim}
use lib.ListN.{length-set}
use lib.Ieee.{of_bits}
use Rattle.tear.proofs.TearLaws.{Slackening, slackening_start, slackening_in, slackening_out, slackening_done}
use borrow.Author.Rules.{rules}
use Rattle.tear.proofs.tears.slacken_bridges.Goals as goal
use Rattle.tear.proofs.tears.slacken_bridges.Goals.{else-bridges, then-bridges}

pub loop-i-init : goal.loop-i-init
loop-i-init c = slackening_start _ _ _ _ _ _ _

pub bounds-lengths-m-then-bridges : goal.bounds-lengths-m-then-bridges
bounds-lengths-m-then-bridges c = simp length-set (omega (arith, c.loop-i.invariant.long, c.requires.lengths, c.loop-i-test.true))

pub loop-i-preserved : goal.loop-i-preserved
unfolding of_bits
loop-i-preserved c = elim c.if-bridges.branch [
  | then-bridges w ↦ slackening_in _ _ _ _ _ _ _ _ _ c.loop-i.invariant c.loop-i-test.true c.requires.lengths _ c.bridges.ensures w.if-bridges.true _ w.lengths-is
  | else-bridges w ↦ slackening_out _ _ _ _ _ _ _ _ _ c.loop-i.invariant c.loop-i-test.true c.requires.lengths _ c.bridges.ensures w.if-bridges.false _ w.lengths-is
]

pub shape_of-lengths : goal.shape_of-lengths
shape_of-lengths c = c.loop-i.invariant.long

pub returns : goal.returns
returns c = slackening_done _ _ _ _ _ _ _ _ _ c.loop-i.invariant (search rules)
