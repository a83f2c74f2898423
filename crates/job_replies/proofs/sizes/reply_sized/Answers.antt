-- `job_replies::sizes::reply_sized` meets its contract: what was tried is the answer, or the large blocks give it. Assumes nothing.
use mathlib.Core.Path.{sym, ◌∙◌}
use Rattle.job_replies.proofs.CutDown.{limited_still, replied_still, large_blocks}
use Rattle.job_replies.proofs.sizes.reply_sized.Goals as goal

-- `job_replies::sizes::reply_sized` meets its contract: what was tried is the answer, or the large blocks give it. Assumes nothing.
pub reply_tried-code-requires : goal.reply_tried-code-requires
reply_tried-code-requires c = c.requires

pub reply_in-requires : goal.reply_in-requires
reply_in-requires c = let P = c.requires in (P.0, limited_still P.1 c.reply_tried-code.auto.log, large_blocks _ P.0 P.1)

pub shape_of-out-then-lacks_room : goal.shape_of-out-then-lacks_room
shape_of-out-then-lacks_room c = c.reply_in.auto.out ∙ c.reply_tried-code.auto.out

pub shape_of-log-then-lacks_room : goal.shape_of-log-then-lacks_room
shape_of-log-then-lacks_room c = c.reply_in.auto.log ∙ c.reply_tried-code.auto.log

pub returns-then-lacks_room : goal.returns-then-lacks_room
returns-then-lacks_room c = replied_still c.reply_in.ensures c.reply_tried-code.auto.out c.reply_tried-code.auto.log

pub shape_of-out : goal.shape_of-out
shape_of-out c = c.reply_tried-code.auto.out

pub shape_of-log : goal.shape_of-log
shape_of-log c = c.reply_tried-code.auto.log

pub returns : goal.returns
returns c = c.reply_tried-code.ensures (sym c.lacks_room.ensures ∙ c.if-lacks_room.false)
