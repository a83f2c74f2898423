-- `strap_cut::segments::cross_blade` meets its contract: the table of the edges is built, and the crossings are found in two tables that are here, and done in turn. Assumes nothing.
use Rattle.crossing.proofs.CrossedLaws.{crossings_room}
use Rattle.strap_cut.proofs.CrossedStart.{found_inside, table_room}
use Rattle.links.proofs.Parts.{cleared_fresh, pairs_room, pairs_built}
use mathlib.Core.Path.{refl}
use borrow.Author.Rules.{rules}
use native.Mathlib.Omega.{arith}
use Rattle.strap_cut.proofs.segments.cross_blade.Goals as goal

pub build_links-requires : goal.build_links-requires
build_links-requires c = let A = c.args in let P = c.requires in
    (pairs_room {w = 4} (omega arith) (table_room A.room A.k A.points.now A.roots.now A.ends.now A.lengths.now A.outline.now A.log.now _ _ P.0 _ (omega arith)), cleared_fresh 5120)

pub find_crossings-m-requires : goal.find_crossings-m-requires
find_crossings-m-requires c = let A = c.args in let P = c.requires in
    crossings_room A.room A.k A.points.now A.roots.now A.ends.now A.lengths.now A.outline.now A.log.now _ _ P.0 _ _ (omega arith) (omega arith)

pub cross_all-requires : goal.cross_all-requires
cross_all-requires c = let A = c.args in
    let P = c.requires in
    let Y = P.0.ready in
    let F = c.find_crossings-m in
    (P.0, found_inside A.b0 A.b1 A.room A.k _ A.points.now A.roots.now P.0.corners P.0.volumes A.ends.now A.lengths.now A.outline.now A.log.now Y refl _ _ _ F.ensures P.1 (omega (arith, c.requires.0.ready.counts.edges, c.requires.0.ready.rooms.few_edges, F.auto.numbers)) (omega (arith, c.requires.0.ready.counts.edges, c.requires.0.ready.rooms.few_edges, F.auto.ts)), pairs_built {w = 4} (table_room A.room A.k A.points.now A.roots.now A.ends.now A.lengths.now A.outline.now A.log.now _ _ P.0 _ (omega arith)) c.build_links.auto.table c.build_links.ensures)

pub shape_of-points : goal.shape_of-points
shape_of-points c = c.cross_all.auto.points

pub shape_of-roots : goal.shape_of-roots
shape_of-roots c = c.cross_all.auto.roots

pub shape_of-ends : goal.shape_of-ends
shape_of-ends c = c.cross_all.auto.ends

pub shape_of-lengths : goal.shape_of-lengths
shape_of-lengths c = c.cross_all.auto.lengths

pub shape_of-outline : goal.shape_of-outline
shape_of-outline c = c.cross_all.auto.outline

pub shape_of-log : goal.shape_of-log
shape_of-log c = c.cross_all.auto.log

pub shape_of-bends : goal.shape_of-bends
shape_of-bends c = c.cross_all.auto.bends

pub shape_of-snapped : goal.shape_of-snapped
shape_of-snapped c = c.cross_all.auto.snapped

pub returns : goal.returns
returns c = record { many = _; numbers = _; ts = _; found = c.find_crossings-m.ensures; told = c.cross_all.ensures.0 }
