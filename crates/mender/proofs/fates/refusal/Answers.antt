-- `mender::fates::refusal` meets its contract. Assumes nothing.
use Rattle.mender.proofs.Judging.{judge_short, judge_many, judge_right, judge_long}
use native.Mathlib.Omega.{arith}
use mathlib.Core.Path.{sym, ◌∙◌}
use Rattle.mender.proofs.fates.refusal.Goals as goal

-- `mender::fates::refusal` meets its contract. Assumes nothing.
pub returns-then-s-lt6 : goal.returns-then-s-lt6
returns-then-s-lt6 c = judge_short c.args.s.now c.if-s-lt6.true

pub returns-then-refused_counts : goal.returns-then-refused_counts
returns-then-refused_counts c = judge_many c.args.s.now c.counts_in-c.result (omega (arith, c.if-s-lt6.false)) c.counts_in-c.ensures.is (sym c.refused_counts.ensures ∙ c.if-refused_counts.true)

pub returns-then-s-byte_len : goal.returns-then-s-byte_len
returns-then-s-byte_len c = judge_right c.args.s.now c.counts_in-c.result (omega (arith, c.if-s-lt6.false)) c.counts_in-c.ensures.is _ _ (sym c.refused_counts.ensures ∙ c.if-refused_counts.false) c.is_second.ensures c.byte_len.ensures c.if-s-byte_len.true

pub returns-else-s-byte_len : goal.returns-else-s-byte_len
returns-else-s-byte_len c = judge_long c.args.s.now c.counts_in-c.result (omega (arith, c.if-s-lt6.false)) c.counts_in-c.ensures.is _ _ (sym c.refused_counts.ensures ∙ c.if-refused_counts.false) c.is_second.ensures c.byte_len.ensures c.if-s-byte_len.false
