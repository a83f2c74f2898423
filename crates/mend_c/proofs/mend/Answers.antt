-- `mend_c::mend` meets its contract. Assumes nothing.
use Rattle.mend_c.proofs.Replying.{few_counts, all_told, few_bytes, refused_small, refused_told, zeros_as, zeros_bits}
use Rattle.mender.proofs.Done.{cleared}
use Rattle.std.specs.Prelude.{Err}
use mathlib.Core.Path.{ap, ◌∙◌}
use Rattle.mend_c.proofs.mend.Goals as goal

pub shape_of-mended-then-counts-lt8 : goal.shape_of-mended-then-counts-lt8
shape_of-mended-then-counts-lt8 c = c.blank.auto.s ∙ c.mend_sheet-told.auto.mended

pub shape_of-text-then-counts-lt8 : goal.shape_of-text-then-counts-lt8
shape_of-text-then-counts-lt8 c = c.finish.auto.out ∙ c.mend_sheet-told.auto.text

pub shape_of-counts-then-counts-lt8 : goal.shape_of-counts-then-counts-lt8
shape_of-counts-then-counts-lt8 c = c.reply_refused.auto.out

pub returns-then-counts-lt8 : goal.returns-then-counts-lt8
returns-then-counts-lt8 c = let R = c.reply_refused.ensures in rw (R.code ∙ c.number.ensures) (few_counts _ _ _ _ _ _ _ _ _ _ _ _ c.mend_sheet-told.ensures c.in-Ok.is c.if-counts-lt8.true (zeros_bits _ _ _ c.blank.ensures c.mend_sheet-told.auto.mended) (zeros_as _ _ _ (cleared _ _ _ c.finish.ensures) c.mend_sheet-told.auto.text) R.bytes)

pub reply_refused-requires-in-Refused : goal.reply_refused-requires-in-Refused
reply_refused-requires-in-Refused c = rw c.number-in-Refused.ensures (refused_small _ _ _ _ _ _ _ c.mend_sheet-told.ensures (c.in-Err.is ∙ ap Err c.in-Refused.is))

pub shape_of-mended-else-counts-lt8 : goal.shape_of-mended-else-counts-lt8
shape_of-mended-else-counts-lt8 c = c.mend_sheet-told.auto.mended

pub shape_of-text-else-counts-lt8 : goal.shape_of-text-else-counts-lt8
shape_of-text-else-counts-lt8 c = c.mend_sheet-told.auto.text

pub shape_of-counts-else-counts-lt8 : goal.shape_of-counts-else-counts-lt8
shape_of-counts-else-counts-lt8 c = c.write_two.auto.out

pub returns-else-counts-lt8 : goal.returns-else-counts-lt8
returns-else-counts-lt8 c = all_told _ _ _ _ _ _ _ _ _ _ c.mend_sheet-told.ensures c.in-Ok.is c.if-counts-lt8.false c.write_two.ensures

pub shape_of-mended-in-Short : goal.shape_of-mended-in-Short
shape_of-mended-in-Short c = c.mend_sheet-told.auto.mended

pub shape_of-text-in-Short : goal.shape_of-text-in-Short
shape_of-text-in-Short c = c.mend_sheet-told.auto.text

pub shape_of-counts-in-Short : goal.shape_of-counts-in-Short
shape_of-counts-in-Short c = c.reply_refused-in-Short.auto.out

pub returns-in-Short : goal.returns-in-Short
returns-in-Short c = let R = c.reply_refused-in-Short.ensures in rw (R.code ∙ c.number-in-Short.ensures) (few_bytes _ _ _ _ _ _ _ _ c.mend_sheet-told.ensures (c.in-Err.is ∙ ap Err c.in-Short.is) R.bytes)

pub shape_of-mended-in-Refused : goal.shape_of-mended-in-Refused
shape_of-mended-in-Refused c = c.mend_sheet-told.auto.mended

pub shape_of-text-in-Refused : goal.shape_of-text-in-Refused
shape_of-text-in-Refused c = c.mend_sheet-told.auto.text

pub shape_of-counts-in-Refused : goal.shape_of-counts-in-Refused
shape_of-counts-in-Refused c = c.reply_refused-in-Refused.auto.out

pub returns-in-Refused : goal.returns-in-Refused
returns-in-Refused c = refused_told _ _ _ _ _ _ _ _ _ _ c.mend_sheet-told.ensures (c.in-Err.is ∙ ap Err c.in-Refused.is) (rw c.number-in-Refused.ensures at c.reply_refused-in-Refused.ensures)
