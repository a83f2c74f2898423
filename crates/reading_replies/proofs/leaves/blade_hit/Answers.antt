-- `reading_c::leaves::blade_hit` meets its contract: the entry is asked on four points, and its answer written. Assumes nothing.
use Rattle.reading_replies.proofs.Replying.{blade_misread, blade_small, blade_replied}
use Rattle.reading_replies.proofs.leaves.blade_hit.Goals as goal

pub returns-then-words-ne32 : goal.returns-then-words-ne32
returns-then-words-ne32 c = blade_misread _ _ _ _ c.if-words-ne32.true c.reply_refused.ensures

pub reply_tested-requires : goal.reply_tested-requires
reply_tested-requires c = blade_small _ _ _ _ c.blade_hit.ensures

pub returns : goal.returns
returns c = blade_replied _ _ _ _ _ _ _ _ _ c.if-words-ne32.false c.point_at-b0.ensures c.point_at-b1.ensures c.point_at-p.ensures c.point_at-q.ensures c.blade_hit.ensures c.reply_tested.ensures
