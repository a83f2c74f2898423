-- `feed_c::close_sheet` meets its contract. Assumes nothing.
use native.Mathlib.Omega.{arith}
use Rattle.feed_c.proofs.Closes.{close_open, close_late, why_small, still_sized}
use Rattle.feed_c.proofs.close_sheet.Goals as goal

pub reply_refused-requires : goal.reply_refused-requires
reply_refused-requires c = why_small _ _ _ c.shut_reader-why.ensures

pub returns-then-why-ne0 : goal.returns-then-why-ne0
returns-then-why-ne0 c = close_late _ _ _ _ _ _ c.shut_reader-why.ensures c.if-why-ne0.true c.reply_refused.ensures

pub held-end-requires : goal.held-end-requires
held-end-requires c = still_sized _ _ _ c.shut_reader-why.ensures c.if-why-ne0.false

pub returns : goal.returns
returns c = close_open _ _ _ _ _ _ _ c.shut_reader-why.ensures c.if-why-ne0.false c.held-end.ensures.is c.read_sheet.ensures

pub slice_bounds-read_sheet-end : goal.slice_bounds-read_sheet-end
slice_bounds-read_sheet-end c = omega (arith, still_sized _ _ _ c.shut_reader-why.ensures c.if-why-ne0.false, c.held-end.ensures.few)
