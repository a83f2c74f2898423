-- `bench_c::cutting::bench_cut` meets its contract: a bad argument, or the job on the blade and the fraction that were read, in the edition that was told. Assumes nothing.
use Rattle.reading_c.proofs.Asking.{unread_small}
use Rattle.bench_c.proofs.Cuttings.{cut_misread, cut_replied}
use Rattle.bench_c.proofs.cutting.bench_cut.Goals as goal

pub refuse-requires : goal.refuse-requires
refuse-requires c = unread_small _ _ _ c.unread.ensures

pub shape_of-out-then-blade-ne16 : goal.shape_of-out-then-blade-ne16
shape_of-out-then-blade-ne16 c = c.refuse.auto.out

pub shape_of-log-then-blade-ne16 : goal.shape_of-log-then-blade-ne16
shape_of-log-then-blade-ne16 c = c.refuse.auto.log

pub returns-then-blade-ne16 : goal.returns-then-blade-ne16
returns-then-blade-ne16 c = let A = c.args in cut_misread A.bytes.now A.rooms.now _ _ _ _ _ A.blade.now A.edition A.fraction _ c.if-blade-ne16.true c.unread.ensures c.refuse.ensures

pub cut_job-job-requires : goal.cut_job-job-requires
cut_job-job-requires c = c.if-blade-ne16.false

pub shape_of-out : goal.shape_of-out
shape_of-out c = c.reply_job.auto.out

pub shape_of-log : goal.shape_of-log
shape_of-log c = c.reply_job.auto.log

pub returns : goal.returns
returns c = let A = c.args in cut_replied A.bytes.now A.rooms.now _ _ _ _ _ A.blade.now A.edition A.fraction _ _ c.if-blade-ne16.false c.cut_job-job.ensures c.reply_job.ensures
