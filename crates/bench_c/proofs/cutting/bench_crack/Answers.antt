-- `bench_c::cutting::bench_crack` meets its contract: a bad argument, or the job on the torn edges that were read. Assumes nothing.
use native.Mathlib.Omega.{arith}
use mathlib.Core.Path.{sym}
use lib.ListN.{length}
use lib.Seq.{length-take-le}
use Rattle.reading_c.proofs.Asking.{unread_small}
use Rattle.bench_c.proofs.Cuttings.{few_words, crack_misread, crack_replied}
use Rattle.bench_c.proofs.cutting.bench_crack.Goals as goal

pub words_into-requires : goal.words_into-requires
words_into-requires c = few_words _ _ c.words_few.ensures c.if-words_few.true

pub slice_bounds-numbers-end : goal.slice_bounds-numbers-end
slice_bounds-numbers-end c = let A = c.args in omega (arith, (few_words (length A.torn.now) _ c.words_few.ensures c.if-words_few.true).1)

pub slice_bounds-reply_job-end : goal.slice_bounds-reply_job-end
slice_bounds-reply_job-end c = sym (length-take-le _ _ ((let A = c.args in omega (arith, (few_words (length A.torn.now) _ c.words_few.ensures c.if-words_few.true).1))))

pub shape_of-out-then-words_few : goal.shape_of-out-then-words_few
shape_of-out-then-words_few c = c.reply_job.auto.out

pub shape_of-log-then-words_few : goal.shape_of-log-then-words_few
shape_of-log-then-words_few c = c.reply_job.auto.log

pub returns-then-words_few : goal.returns-then-words_few
returns-then-words_few c = let A = c.args in crack_replied A.bytes.now A.rooms.now _ _ _ _ _ A.torn.now A.minimum _ _ c.words_few.ensures c.if-words_few.true c.words_into.ensures c.reply_job.ensures

pub refuse-requires : goal.refuse-requires
refuse-requires c = unread_small _ _ _ c.unread.ensures

pub shape_of-out : goal.shape_of-out
shape_of-out c = c.refuse.auto.out

pub shape_of-log : goal.shape_of-log
shape_of-log c = c.refuse.auto.log

pub returns : goal.returns
returns c = let A = c.args in crack_misread A.bytes.now A.rooms.now _ _ _ _ _ A.torn.now A.minimum _ _ c.words_few.ensures c.if-words_few.false c.unread.ensures c.refuse.ensures
