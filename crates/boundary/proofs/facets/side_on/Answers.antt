-- `boundary::facets::side_on` meets its contract: one test behind the other. Assumes nothing.
use Rattle.boundary.proofs.FacetLaws.{side_both, side_not}
use Rattle.boundary.specs.Faces.{on_by}
use borrow.Author.Rules.{rules}
use Rattle.boundary.proofs.facets.side_on.Goals as goal

pub returns-then-on_facet : goal.returns-then-on_facet
returns-then-on_facet c = let A = c.args in side_both (on_by A.v A.copy A.p.now A.q.now) A.x A.y c.on_facet.result c.on_facet-then-on_facet.result c.on_facet.ensures c.if-on_facet.true c.on_facet-then-on_facet.ensures

pub returns : goal.returns
returns c = let A = c.args in side_not (on_by A.v A.copy A.p.now A.q.now) A.x A.y c.on_facet.result c.on_facet.ensures c.if-on_facet.false
