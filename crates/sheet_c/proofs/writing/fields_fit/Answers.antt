-- `sheet_c::writing::fields_fit` meets its contract: the counts against the bytes. Assumes nothing.
use Rattle.sheet_c.proofs.Fielding.{fields_short, fields_as}
use Rattle.sheet_c.proofs.writing.fields_fit.Goals as goal

-- `sheet_c::writing::fields_fit` meets its contract: the counts against the bytes. Assumes nothing.
pub returns-then-fields-lt12 : goal.returns-then-fields-lt12
returns-then-fields-lt12 c = fields_short _ c.if-fields-lt12.true

pub returns : goal.returns
returns c = fields_as _ _ _ _ c.word_at-p.ensures.0 c.word_at-t.ensures.0 c.word_at-e.ensures.0 c.if-fields-lt12.false
