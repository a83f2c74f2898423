-- `reading_c::leaves::root` meets its contract: the entry is asked, and its answer written. Assumes nothing.
use Rattle.reading_replies.proofs.Replying.{root_small, root_replied}
use Rattle.reading_replies.proofs.leaves.root.Goals as goal

pub reply_number-requires : goal.reply_number-requires
reply_number-requires c = root_small c.number_of-x.result _ c.root.ensures

pub returns : goal.returns
returns c = root_replied _ _ _ c.number_of-x.result _ _ c.number_of-x.ensures c.root.ensures c.reply_number.ensures
