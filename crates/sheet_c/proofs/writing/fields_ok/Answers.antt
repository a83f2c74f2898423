-- `sheet_c::writing::fields_ok` meets its contract: both tests. Assumes nothing.
use Rattle.sheet_c.proofs.Fielding.{fields_counts, ok_both, ok_not}
use Rattle.sheet_c.proofs.writing.fields_ok.Goals as goal

pub fields_few-requires : goal.fields_few-requires
fields_few-requires c = fields_counts _ _ c.fields_fit.ensures c.if-fields_fit.true

pub returns-then-fields_fit : goal.returns-then-fields_fit
returns-then-fields_fit c = ok_both _ _ _ c.fields_fit.ensures c.if-fields_fit.true c.fields_few.ensures

pub returns : goal.returns
returns c = ok_not _ _ c.fields_fit.ensures c.if-fields_fit.false
