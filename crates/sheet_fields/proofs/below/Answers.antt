-- `sheet_fields::below` meets its contract. Assumes nothing.
use native.Mathlib.Omega.{arith}
use mathlib.Core.Path.{◌∙◌, sym, refl}
use borrow.Author.Tests.{lt-ltb, le-ltb}
use Rattle.sheet.proofs.SeenLaws.{below_turn, below_end}
use Rattle.sheet_fields.proofs.below.Goals as goal

pub loop-x-init : goal.loop-x-init
loop-x-init c = (omega arith, refl)

pub loop-x-preserved : goal.loop-x-preserved
loop-x-preserved c = (omega arith, sym (below_turn c.args.bound c.args.a.now c.loop-x.x-index (omega arith) ∙ rw (lt-ltb _ _ c.if-x-bound.false)) ∙ c.loop-x.invariant.1)

pub returns-then-x-bound : goal.returns-then-x-bound
returns-then-x-bound c = sym (sym c.loop-x.invariant.1 ∙ (below_turn c.args.bound c.args.a.now c.loop-x.x-index (omega arith) ∙ rw (le-ltb _ _ c.if-x-bound.true)))

pub returns : goal.returns
returns c = sym (below_end c.args.bound c.args.a.now c.loop-x.x-index (omega arith)) ∙ c.loop-x.invariant.1
