-- `bench_c::tearing::bench_straddlers` meets its contract: it is the job, beside any list. Assumes nothing.
use Rattle.bench_c.proofs.Entries.{straddlers_replied}
use Rattle.bench_c.proofs.tearing.bench_straddlers.Goals as goal

pub shape_of-out : goal.shape_of-out
shape_of-out c = c.reply_job.auto.out

pub shape_of-log : goal.shape_of-log
shape_of-log c = c.reply_job.auto.log

pub returns : goal.returns
returns c = straddlers_replied _ c.args.bytes.now c.args.rooms.now _ _ _ _ _ c.reply_job.ensures
