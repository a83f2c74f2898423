-- `bench_c::tearing::bench_split` meets its contract: it is the job on the capped sides. Assumes nothing.
use mathlib.Core.Path.{sym}
use lib.Seq.{length-take-le}
use Rattle.reading_c.proofs.Siding.{capped_within, capped_most}
use Rattle.bench_c.proofs.Entries.{split_replied}
use native.Mathlib.Omega.{arith}
use Rattle.bench_c.proofs.tearing.bench_split.Goals as goal

pub bytes_into-requires : goal.bytes_into-requires
bytes_into-requires c = (capped_within c.capped-n.ensures, capped_most c.capped-n.ensures)

pub slice_bounds-numbers-end : goal.slice_bounds-numbers-end
slice_bounds-numbers-end c = omega (arith, capped_most c.capped-n.ensures)

pub slice_bounds-reply_job-end : goal.slice_bounds-reply_job-end
slice_bounds-reply_job-end c = sym (length-take-le _ _ ((omega (arith, capped_most c.capped-n.ensures))))

pub shape_of-out : goal.shape_of-out
shape_of-out c = c.reply_job.auto.out

pub shape_of-log : goal.shape_of-log
shape_of-log c = c.reply_job.auto.log

pub returns : goal.returns
returns c = split_replied c.args.bytes.now _ _ c.args.sides.now _ c.args.rooms.now _ _ _ _ _ c.capped-n.ensures c.bytes_into.ensures c.reply_job.ensures
