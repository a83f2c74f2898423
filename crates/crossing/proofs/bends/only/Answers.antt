use Rattle.elements.specs.Workers.{marked}
use borrow.Author.Tests.{eq-eqb, ne_eqb}
use Rattle.crossing.proofs.BendLaws.{only_no, only_yes}
use borrow.Author.Rules.{rules}
use Rattle.crossing.proofs.bends.only.Goals as goal

-- src/bends.rt:55:9
pub returns-then-first-w-eq1 : goal.returns-then-first-w-eq1
returns-then-first-w-eq1 c = only_yes _ (marked c.args.second.now c.args.w) (eq-eqb _ 1 c.if-first-w-eq1.true)

-- src/bends.rt:50:1
pub returns : goal.returns
returns c = only_no _ (marked c.args.second.now c.args.w) (ne_eqb _ 1 c.if-first-w-eq1.false)
