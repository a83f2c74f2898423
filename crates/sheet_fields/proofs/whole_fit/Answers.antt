-- `sheet_fields::whole_fit` meets its contract. Assumes nothing.
use native.Mathlib.Omega.{arith}
use mathlib.Core.Path.{◌∙◌, sym, refl}
use lib.IntN.{pos}
use lib.ListN.{get_or}
use Rattle.sheet_fields.proofs.WholeLaws.{read_field, fit_turn, fit_stop, fit_end}
use Rattle.sheet_fields.proofs.whole_fit.Goals as goal

pub loop-i-init : goal.loop-i-init
loop-i-init c = (omega arith, refl)

pub loop-i-preserved : goal.loop-i-preserved
loop-i-preserved c =
    let a = c.args.a.now in
    let l = c.loop-i in
    (omega arith, sym (fit_turn a l.i c.field_of.result (omega arith) (read_field _ (get_or a l.i (pos 0)) c.field_of-arg-1.given c.field_of.ensures) c.if-field_of-ge2048.false) ∙ l.invariant.1)

pub returns-then-field_of-ge2048 : goal.returns-then-field_of-ge2048
returns-then-field_of-ge2048 c =
    let a = c.args.a.now in
    let l = c.loop-i in
    sym (sym l.invariant.1 ∙ fit_stop a l.i c.field_of.result (omega arith) (read_field _ (get_or a l.i (pos 0)) c.field_of-arg-1.given c.field_of.ensures) c.if-field_of-ge2048.true)

pub returns : goal.returns
returns c = sym (fit_end c.args.a.now c.loop-i.i (omega arith)) ∙ c.loop-i.invariant.1
