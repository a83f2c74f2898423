-- `work::notes::note` meets its contract: six stores put an entry behind the log. Assumes nothing.
use Rattle.mesh.proofs.Lists.{noted}
use lib.ListN.{length-set}
use native.Mathlib.Omega.{arith}
use Rattle.work.proofs.notes.note.Goals as goal

pub bounds-log-o-2 : goal.bounds-log-o-2
bounds-log-o-2 c = simp length-set (omega arith)

pub bounds-log-o-3 : goal.bounds-log-o-3
bounds-log-o-3 c = simp length-set (omega arith)

pub bounds-log-o-4 : goal.bounds-log-o-4
bounds-log-o-4 c = simp length-set (omega arith)

pub bounds-log-o-5 : goal.bounds-log-o-5
bounds-log-o-5 c = simp length-set (omega arith)

pub bounds-log-o-6 : goal.bounds-log-o-6
bounds-log-o-6 c = simp length-set (omega arith)

pub returns : goal.returns
returns c = noted _ _ _ _ _ _ _ _ c.requires
