-- `crossmarks::note_across` meets its contract. Assumes nothing.
use Rattle.crossmarks.proofs.NotingLaws.{pair_beside}
use native.Mathlib.Omega.{arith}
use borrow.Author.Rules.{rules}
use Rattle.crossmarks.proofs.note_across.Goals as goal

pub returns-then-beside : goal.returns-then-beside
returns-then-beside c = let P = c.requires in let A = c.args in pair_beside A.rule A.b0 A.b1 A.points.now A.offsets.now A.x A.y _ _ _ P.1 P.2 c.beside.ensures c.if-beside.true

pub note_pair-requires : goal.note_pair-requires
note_pair-requires c = c.requires.0

pub shape_of-log : goal.shape_of-log
shape_of-log c = c.note_pair.auto.log

pub returns : goal.returns
returns c = c.note_pair.ensures
