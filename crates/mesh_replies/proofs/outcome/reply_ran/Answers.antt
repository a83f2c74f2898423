-- `mesh_replies::outcome::reply_ran` meets its contract: a refusal, or the mesh and the log. Assumes nothing.
use Rattle.mesh_replies.proofs.Tellings.{telling_as, told_as, refused_as, done_as}
use native.Mathlib.Omega.{arith}
use Rattle.mesh_replies.proofs.outcome.reply_ran.Goals as goal

pub refuse-requires : goal.refuse-requires
refuse-requires g c = let t = telling_as g.E.Tells.told _ _ _ _ _ _ _ _ _ _ _ _ c.in-Err.is c.requires in omega (arith, t, c.tell.ensures)

pub returns-in-Err : goal.returns-in-Err
returns-in-Err g c = told_as g.E.Tells.told _ _ _ _ _ _ _ _ _ _ _ _ _ _ _ _ c.in-Err.is (refused_as _ _ _ _ _ _ _ c.tell.ensures c.refuse.ensures)

pub changed-any-requires : goal.changed-any-requires
changed-any-requires g c = let t = telling_as g.E.Tells.told _ _ _ _ _ _ _ _ _ _ _ _ c.in-Ok.is c.requires in omega (arith, t.words)

pub reply_done-requires : goal.reply_done-requires
reply_done-requires g c = telling_as g.E.Tells.told _ _ _ _ _ _ _ _ _ _ _ _ c.in-Ok.is c.requires

pub returns-in-Ok : goal.returns-in-Ok
returns-in-Ok g c = let A = c.args in told_as g.E.Tells.told _ _ _ _ _ _ _ _ _ _ _ _ _ _ _ _ c.in-Ok.is (done_as g.E.Tells.told _ _ A.gone.now A.points.now A.roots.now A.corners.now A.volumes.now A.ends.now A.lengths.now A.outline.now A.words.now _ _ _ _ _ c.changed-any.ensures c.reply_done.ensures)
