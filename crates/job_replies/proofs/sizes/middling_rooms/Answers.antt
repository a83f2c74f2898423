-- `job_replies::sizes::middling_rooms` meets its contract. Assumes nothing.
use Rattle.job_replies.proofs.CutDown.{rooms_middling}
use Rattle.job_replies.proofs.sizes.middling_rooms.Goals as goal

pub returns : goal.returns
returns c = rooms_middling c.args.room _ _ _ _ _ c.least.ensures c.least-2.ensures c.least-3.ensures c.least-4.ensures c.least-5.ensures
