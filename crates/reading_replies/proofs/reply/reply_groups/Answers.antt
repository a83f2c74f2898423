-- `reading_replies::reply::reply_groups` meets its contract: a refusal, or a count and the groups. Assumes nothing.
use mathlib.Core.Path.{ap}
use Rattle.model.specs.Reads.{refused}
use Rattle.replies.proofs.Saying.{replied_as}
use Rattle.reading_replies.proofs.Replying.{told_small, told_as}
use Rattle.reading_replies.proofs.reply.reply_groups.Goals as goal

pub reply_refused-requires : goal.reply_refused-requires
reply_refused-requires g c = rw c.tell.ensures (told_small g.E.Tells.told _ _ _ c.in-Err.is c.requires.0)

pub returns-in-Err : goal.returns-in-Err
returns-in-Err g c = told_as g.E.Tells.told _ _ _ _ _ _ c.in-Err.is (replied_as _ _ _ _ _ (ap refused c.tell.ensures) c.reply_refused.ensures)

pub returns-in-Ok : goal.returns-in-Ok
returns-in-Ok g c = told_as g.E.Tells.told _ _ _ _ _ _ c.in-Ok.is c.reply_words.ensures
