-- `reading_c::leaves::point_at` meets its contract: two words are a point. Assumes nothing.
use Rattle.reading_replies.proofs.leaves.point_at.Goals as goal

pub returns : goal.returns
returns c = cc
