-- `tear::tried::way_load` meets its contract: the tables of the way, then the mean of its loads. Assumes nothing.
use native.Mathlib.Omega.{arith}
use Rattle.elements.specs.Table.{kind_is}
use Rattle.tear.proofs.TriedLaws.{mean_room, way_load}
use borrow.Author.Rules.{rules}
use Rattle.tear.proofs.tried.way_load.Goals as goal

pub way_tables-n-requires : goal.way_tables-n-requires
way_tables-n-requires c = let P = c.requires in (P.0, record { numbers = omega arith; verts = omega arith; measures = omega arith; sides = omega arith }, P.2)

pub mean_load-requires : goal.mean_load-requires
mean_load-requires c = let P = c.requires in let A = c.args in let W = c.way_tables-n in
    mean_room (kind_is A.kind) A.k A.points.now A.roots.now A.corners.now A.volumes.now A.ends.now A.lengths.now A.outline.now A.v A.w P.0 _ _ _ _ _ W.ensures _ _ (omega (arith, W.ensures.few, W.auto.numbers)) (omega (arith, W.ensures.few, W.auto.sides)) P.1

pub returns : goal.returns
returns c = let P = c.requires in let A = c.args in
    way_load (kind_is A.kind) A.k A.points.now A.roots.now A.corners.now A.volumes.now A.ends.now A.lengths.now A.outline.now A.v A.w P.0 _ _ _ _ _ c.way_tables-n.ensures _ _ c.mean_load.ensures
