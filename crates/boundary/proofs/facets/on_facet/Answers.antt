-- `boundary::facets::on_facet` meets its contract: one test behind the other. Assumes nothing.
use Rattle.boundary.proofs.FacetLaws.{on_copy, on_home, on_first, on_second}
use borrow.Author.Tests.{not-true, not-false}
use borrow.Author.Rules.{rules}
use mathlib.Core.Path.{ap}
use mathlib.Core.Bool.{not}
use Rattle.boundary.proofs.facets.on_facet.Goals as goal

-- `boundary::facets::on_facet` meets its contract: one test behind the other. Assumes nothing.
pub returns-then-w-copy : goal.returns-then-w-copy
returns-then-w-copy c = on_copy c.args.v c.args.copy c.args.p.now c.args.q.now c.args.w c.if-w-copy.true

pub returns-then-w-v : goal.returns-then-w-v
returns-then-w-v c = on_home c.args.v c.args.copy c.args.p.now c.args.q.now c.args.w c.if-w-copy.false c.if-w-v.true

pub returns-then-not-stands_in : goal.returns-then-not-stands_in
returns-then-not-stands_in c = on_first c.args.v c.args.copy c.args.p.now c.args.q.now c.args.w c.if-w-copy.false c.if-w-v.false c.stands_in.result c.stands_in.ensures (not-true _ (ap not c.if-not-stands_in.true))

pub returns : goal.returns
returns c = on_second c.args.v c.args.copy c.args.p.now c.args.q.now c.args.w c.if-w-copy.false c.if-w-v.false c.stands_in.result c.stands_in-2.result c.stands_in.ensures (not-false _ (ap not c.if-not-stands_in.false)) c.stands_in-2.ensures
