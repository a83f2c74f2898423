-- `reading_c::questions::unread` meets its contract: by cases of the fault. Assumes nothing.
use Rattle.mesh.proofs.Refused.{refused_some}
use Rattle.judge.specs.Checks.{then_check}
use Rattle.judge.proofs.Joined.{then_stays}
use Rattle.reading_c.proofs.questions.unread.Goals as goal

pub returns-in-Ok : goal.returns-in-Ok
unfolding then_check
returns-in-Ok c = rw (c.in-Ok.is)

pub returns-in-Err : goal.returns-in-Err
returns-in-Err c = rw (c.in-Err.is) (then_stays _ _ 4 (refused_some c.in-Err.e))
