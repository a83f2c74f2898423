-- `fan_c::reply_found` meets its contract: a refusal, or a count and the numbers. Assumes nothing.
use mathlib.Core.Path.{sym, ap}
use lib.Seq.{length-take-le}
use Rattle.model.specs.Reads.{refused}
use Rattle.replies.proofs.Saying.{replied_as}
use Rattle.fan_c.proofs.Fanning.{told_small, told_as, front_few}
use Rattle.fan_c.proofs.reply_found.Goals as goal

pub reply_refused-requires : goal.reply_refused-requires
reply_refused-requires c = rw c.number.ensures (told_small _ _ _ c.in-Err.is c.requires)

pub returns-in-Err : goal.returns-in-Err
returns-in-Err c = told_as _ _ _ _ _ _ c.in-Err.is (replied_as _ _ _ _ _ (ap refused c.number.ensures) c.reply_refused.ensures)

pub slice_bounds-reply_words-end : goal.slice_bounds-reply_words-end
slice_bounds-reply_words-end c = sym (length-take-le _ _ (told_small _ _ _ c.in-Ok.is c.requires).0)

pub reply_words-requires : goal.reply_words-requires
reply_words-requires c = front_few _ _ (told_small _ _ _ c.in-Ok.is c.requires).1

pub returns-in-Ok : goal.returns-in-Ok
returns-in-Ok c = told_as _ _ _ _ _ _ c.in-Ok.is c.reply_words.ensures
