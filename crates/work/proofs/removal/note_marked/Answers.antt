-- `work::removal::note_marked` meets its contract: where no edge is marked, the log is as it was. Assumes nothing.
use Rattle.work.proofs.Removals.{none_noted}
use Rattle.work.proofs.removal.note_marked.Goals as goal

-- `work::removal::note_marked` meets its contract: where no edge is marked, the log is as it was. Assumes nothing.
pub returns-then-s-eq0 : goal.returns-then-s-eq0
returns-then-s-eq0 c =
    let A = c.args in
    none_noted A.mask.now A.n A.s A.at A.ends.now A.log.now c.requires.1 c.if-s-eq0.true

pub note_edges-requires : goal.note_edges-requires
note_edges-requires c = c.requires.0

pub shape_of-log : goal.shape_of-log
shape_of-log c = c.note_edges.auto.log

pub returns : goal.returns
returns c = c.note_edges.ensures
