-- `mend::mend_all` meets its contract: the lent bytes are never too few. Assumes nothing.
use Rattle.mend.proofs.Ending.{whole_end, short_never, refused_end, refused_fits, wrote_as}
use Rattle.std.specs.Prelude.{Err}
use mathlib.Core.Path.{ap, ◌∙◌}
use Rattle.mend.proofs.mend_all.Goals as goal

pub returns-in-Ok : goal.returns-in-Ok
returns-in-Ok c = whole_end _ _ _ _ _ _ _ _ c.mend_sheet-told.ensures c.in-Ok.is c.mend_sheet-told.auto.mended c.mend_sheet-told.auto.text

pub returns-in-Short : goal.returns-in-Short
returns-in-Short c = absurd (short_never _ _ _ _ _ _ c.mend_sheet-told.ensures (c.in-Err.is ∙ ap Err c.in-Short.is) c.requires.0 c.requires.1)

pub returns-in-Some : goal.returns-in-Some
returns-in-Some c =
    refused_end _ _ _ _ _ _ _ _ _ c.mend_sheet-told.ensures (c.in-Err.is ∙ ap Err c.in-Refused.is) (wrote_as _ _ _ _ _ (rw c.number.ensures at c.write_refused-line.ensures) c.mend_sheet-told.auto.text) _ c.in-Some.is
    (c.write_refused-line.auto.out ∙ c.mend_sheet-told.auto.text)

pub returns-in-None : goal.returns-in-None
returns-in-None c =
    absurd
    (refused_fits _ _ _ _ _ _ _ _ _ c.mend_sheet-told.ensures (c.in-Err.is ∙ ap Err c.in-Refused.is) (wrote_as _ _ _ _ _ (rw c.number.ensures at c.write_refused-line.ensures) c.mend_sheet-told.auto.text) c.in-None.is c.requires.1)
