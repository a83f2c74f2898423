-- `work::removal::drop_marked` meets its contract: where no edge is marked, all of them stay. Assumes nothing.
use Rattle.work.proofs.Removals.{none_removed}
use Rattle.work.proofs.removal.drop_marked.Goals as goal

-- `work::removal::drop_marked` meets its contract: where no edge is marked, all of them stay. Assumes nothing.
pub returns-then-s-eq0 : goal.returns-then-s-eq0
returns-then-s-eq0 c = let A = c.args in
    none_removed A.mask.now A.n A.s A.ends.now A.lengths.now c.requires.counted c.if-s-eq0.true

pub remove_edges-requires : goal.remove_edges-requires
remove_edges-requires c = let P = c.requires in
    (P.long, P.rows)

pub shape_of-ends : goal.shape_of-ends
shape_of-ends c = c.remove_edges.auto.ends

pub shape_of-lengths : goal.shape_of-lengths
shape_of-lengths c = c.remove_edges.auto.lengths

pub returns : goal.returns
returns c = c.remove_edges.ensures
