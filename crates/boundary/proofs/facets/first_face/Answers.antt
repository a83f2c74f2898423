-- `boundary::facets::first_face` meets its contract: the first of three that passes. Assumes nothing.
use Rattle.boundary.proofs.FacetLaws.{face_first, face_second, face_third, face_none}
use borrow.Author.Rules.{rules}
use Rattle.boundary.proofs.facets.first_face.Goals as goal

pub returns-then-side_on : goal.returns-then-side_on
returns-then-side_on c = let A = c.args in let P = c.requires in (face_first A.v A.copy A.p.now A.q.now A.x A.y A.z c.side_on.result c.side_on.ensures c.if-side_on.true, (P.x_in, P.y_in, P.first))

pub returns-then-side_on-2 : goal.returns-then-side_on-2
returns-then-side_on-2 c = let A = c.args in let P = c.requires in (face_second A.v A.copy A.p.now A.q.now A.x A.y A.z c.side_on.result c.side_on.ensures c.if-side_on.false c.side_on-2.result c.side_on-2.ensures c.if-side_on-2.true, (P.y_in, P.z_in, P.second))

pub returns-then-side_on-3 : goal.returns-then-side_on-3
returns-then-side_on-3 c = let A = c.args in let P = c.requires in (face_third A.v A.copy A.p.now A.q.now A.x A.y A.z c.side_on.result c.side_on.ensures c.if-side_on.false c.side_on-2.result c.side_on-2.ensures c.if-side_on-2.false c.side_on-3.result c.side_on-3.ensures c.if-side_on-3.true, (P.z_in, P.x_in, P.third))

pub returns : goal.returns
returns c = let A = c.args in let P = c.requires in (face_none A.v A.copy A.p.now A.q.now A.x A.y A.z c.side_on.result c.side_on.ensures c.if-side_on.false c.side_on-2.result c.side_on-2.ensures c.if-side_on-2.false c.side_on-3.result c.side_on-3.ensures c.if-side_on-3.false, tt)
