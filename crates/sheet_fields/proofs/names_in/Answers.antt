-- `sheet_fields::names_in` meets its contract. Assumes nothing.
use native.Mathlib.Omega.{arith}
use Prim.Native.Nat.{◌-◌}
use mathlib.Core.Path.{◌≡◌, ◌∙◌, sym, refl}
use lib.ListN.{length}
use Rattle.sheet.proofs.SeenLaws.{names_turn, names_none}
use Rattle.sheet_fields.proofs.names_in.Goals as goal

pub loop-i-init : goal.loop-i-init
loop-i-init c = let e : length c.args.a.now - 0 ≡ length c.args.a.now = omega arith in rw e (omega arith, refl)

pub loop-i-preserved : goal.loop-i-preserved
loop-i-preserved c = let r = sym c.names_row.ensures ∙ c.if-not-names_row.false in (omega arith, sym (names_turn c.args.three c.args.p c.args.a.now c.args.b.now c.args.c.now (length c.args.a.now) c.loop-i.i (omega arith) ∙ rw r) ∙ c.loop-i.invariant.1)

pub returns-then-not-names_row : goal.returns-then-not-names_row
returns-then-not-names_row c = let r = sym c.names_row.ensures ∙ c.if-not-names_row.true in sym (sym c.loop-i.invariant.1 ∙ (names_turn c.args.three c.args.p c.args.a.now c.args.b.now c.args.c.now (length c.args.a.now) c.loop-i.i (omega arith) ∙ rw r))

pub returns : goal.returns
returns c = sym (names_none c.args.three c.args.p c.args.a.now c.args.b.now c.args.c.now (length c.args.a.now) c.loop-i.i (omega arith)) ∙ c.loop-i.invariant.1
