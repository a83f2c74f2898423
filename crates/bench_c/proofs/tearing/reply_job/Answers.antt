-- `bench_c::tearing::reply_job` meets its contract: 1 for the sizes, or the reply to the job. Assumes nothing.
use mathlib.Core.Path.{sym, ◌∙◌}
use native.Mathlib.Omega.{arith}
use Rattle.bench_c.proofs.Entries.{made_replied, job_unsized}
use Rattle.bench_c.proofs.tearing.reply_job.Goals as goal

pub reply_sized-requires : goal.reply_sized-requires
reply_sized-requires c = (sym c.image_sized.ensures ∙ c.if-image_sized.true, c.rooms_in-room.ensures.0)

pub shape_of-out-then-image_sized : goal.shape_of-out-then-image_sized
shape_of-out-then-image_sized c = c.reply_sized.auto.out

pub shape_of-log-then-image_sized : goal.shape_of-log-then-image_sized
shape_of-log-then-image_sized c = c.reply_sized.auto.log

pub returns-then-image_sized : goal.returns-then-image_sized
returns-then-image_sized c = let A = c.args in made_replied A.job A.list.now A.bytes.now A.rooms.now _ _ _ _ _ _ c.rooms_in-room.ensures.1 c.reply_sized.ensures

pub refuse-requires : goal.refuse-requires
refuse-requires c = omega arith

pub shape_of-out : goal.shape_of-out
shape_of-out c = c.refuse.auto.out

pub shape_of-log : goal.shape_of-log
shape_of-log c = c.refuse.auto.log

pub returns : goal.returns
returns c = let A = c.args in job_unsized A.job A.list.now A.bytes.now A.rooms.now _ _ _ _ _ _ c.image_sized.ensures c.if-image_sized.false (rw c.number.ensures at c.refuse.ensures)
