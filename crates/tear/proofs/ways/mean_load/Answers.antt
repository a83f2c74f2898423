use lib.Ieee.{of_bits, in_float}
use Prim.Native.Nat.{◌-◌}
use native.Mathlib.Omega.{arith}
use mathlib.Core.Logic.{⊎_elim}
use mathlib.Core.Path.{sym, subst}
use lib.Dec.{T}
use borrow.Author.Tests.{le-leb}
use Rattle.elements.specs.Table.{kind_is}
use Rattle.tear.proofs.WayLaws.{Weighing, weighing_start, weighing_in, weighing_out, weighing_done}
use borrow.Author.Rules.{rules}
use Rattle.tear.proofs.ways.mean_load.Goals as goal
use Rattle.tear.proofs.ways.mean_load.Goals.{else-sides-i-eq1, then-sides-i-eq1}

pub loop-i-init : goal.loop-i-init
unfolding of_bits
loop-i-init c = weighing_start _ _ _ _ _ _

pub load_of-s-requires : goal.load_of-s-requires
load_of-s-requires c = c.requires.has c.loop-i.i c.loop-i-test.true

pub loop-i-preserved : goal.loop-i-preserved
loop-i-preserved c = elim c.if-sides-i-eq1.branch [
  | then-sides-i-eq1 w ↦ weighing_in _ _ _ _ _ _ _ _ _ c.loop-i.invariant c.loop-i-test.true w.if-sides-i-eq1.true _ _ _ w.load_of-s.ensures w.s-is w.far-is
  | else-sides-i-eq1 w ↦ weighing_out _ _ _ _ _ _ _ _ _ c.loop-i.invariant c.loop-i-test.true w.if-sides-i-eq1.false _ _ w.s-is w.far-is
]

pub int_to_float-result : goal.int_to_float-result
unfolding in_float
int_to_float-result c = subst T (sym (le-leb c.loop-i.far 16777216 (omega (arith, c.loop-i.invariant.few, c.loop-i.invariant.inside, c.requires.few)))) tt

pub returns : goal.returns
returns c = weighing_done _ _ _ _ _ _ _ _ _ c.loop-i.invariant (search rules)
