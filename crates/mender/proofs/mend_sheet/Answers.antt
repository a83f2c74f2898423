-- `mender::mend_sheet` meets its contract. Assumes nothing.
use Rattle.mender.proofs.Done.{cleared, done_refused, done_as}
use lib.ListN.{length, replicate}
use mathlib.Core.Path.{sym, ap, ◌∙◌}
use Prim.Native.Nat.{ℕ, ◌*◌}
use Rattle.mender.proofs.mend_sheet.Goals as goal

pub returns-in-Err : goal.returns-in-Err
returns-in-Err c = let a = c.args in done_refused a.s.now (length a.mended.now) (length a.text.now) _ _ _ (c.refusal-r.ensures.no _ c.in-Err.is) c.blank.ensures (cleared _ _ _ c.finish.ensures)

pub mend_held-requires : goal.mend_held-requires
mend_held-requires c = (c.refusal-r.ensures.yes _ c.in-Ok.is, c.blank.ensures ∙ ap (λ (n : ℕ). replicate (8 * n) 0) (sym c.blank.auto.s))

pub returns-in-Ok : goal.returns-in-Ok
returns-in-Ok c = done_as _ _ _ _ _ _ _ c.blank.auto.s c.mend_held.ensures
