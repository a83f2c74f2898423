-- `tear::edge::turned` meets its contract: the loads of both ways tell it. Assumes nothing.
use borrow.Author.Rules.{rules}
use Rattle.elements.specs.Table.{kind_is}
use Rattle.mesh.specs.At.{mesh_at}
use Rattle.tear.proofs.TurnLaws.{ready_back, turned_is}
use Rattle.tear.proofs.edge.turned.Goals as goal

-- `tear::edge::turned` meets its contract: the loads of both ways tell it. Assumes nothing.
pub way_load-p-requires : goal.way_load-p-requires
way_load-p-requires c = c.requires

pub way_load-q-requires : goal.way_load-q-requires
way_load-q-requires c = let P = c.requires in let A = c.args in (ready_back A.x A.y A.k _ _ _ _ _ (mesh_at A.k A.points.now A.roots.now A.corners.now A.volumes.now A.ends.now A.lengths.now A.outline.now) P.0, P.1, P.2)

pub returns : goal.returns
returns c = let A = c.args in turned_is (kind_is A.kind) A.x A.y A.k A.loads.now (mesh_at A.k A.points.now A.roots.now A.corners.now A.volumes.now A.ends.now A.lengths.now A.outline.now) _ _ c.way_load-p.ensures c.way_load-q.ensures _ c.goes_first.ensures
