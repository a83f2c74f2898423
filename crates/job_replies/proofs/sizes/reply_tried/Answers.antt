-- `job_replies::sizes::reply_tried` meets its contract: an answer that says of no room that it lacks is the same in all rooms. Assumes nothing.
use mathlib.Core.Path.{sym, ◌∙◌}
use Rattle.image.proofs.Loading.{sized_counts}
use Rattle.job_replies.proofs.Roomier.{five_lacks}
use Rattle.job_replies.proofs.CutDown.{few_limited, few_middling, middling_blocks, middling_replied}
use Rattle.job_replies.proofs.sizes.reply_tried.Goals as goal

-- `job_replies::sizes::reply_tried` meets its contract: an answer that says of no room that it lacks is the same in all rooms. Assumes nothing.
pub is_middling-requires : goal.is_middling-requires
is_middling-requires c = sized_counts _ c.requires.0

pub reply_in-requires : goal.reply_in-requires
reply_in-requires c = let P = c.requires in
    (P.0, few_limited _ _ _ c.middling_rooms-few.ensures P.1, middling_blocks _ P.0 (sym c.is_middling.ensures ∙ c.if-is_middling.true) (few_middling _ _ c.middling_rooms-few.ensures))

pub shape_of-out-then-is_middling : goal.shape_of-out-then-is_middling
shape_of-out-then-is_middling c = c.reply_in.auto.out

pub shape_of-log-then-is_middling : goal.shape_of-log-then-is_middling
shape_of-log-then-is_middling c = c.reply_in.auto.log

pub returns-then-is_middling : goal.returns-then-is_middling
returns-then-is_middling c = let A = c.args in middling_replied A.job A.list.now A.bytes.now A.rooms.now _ _ _ _ _ _ _ c.requires.0 (sym c.is_middling.ensures ∙ c.if-is_middling.true) c.middling_rooms-few.ensures c.reply_in.ensures

pub returns : goal.returns
returns c = five_lacks
