-- `sheet::rows_ok` meets its contract. Assumes nothing.
use native.Mathlib.Omega.{arith}
use Prim.Native.Nat.{◌-◌, ◌+◌, ◌*◌, ◌≤◌}
use mathlib.Core.Path.{◌≡◌, ◌∙◌, sym, refl}
use Rattle.bits.specs.Bits.{bits_of}
use Rattle.columns.proofs.Cells.{col_fits, next_col}
use Rattle.sheet.proofs.SeenLaws.{ok_turn, ok_none}
use Rattle.sheet.proofs.rows_ok.Goals as goal

pub loop-i-init : goal.loop-i-init
loop-i-init c =
    let a = c.args in
    let e : a.n - 0 ≡ a.n = omega arith in
    let f : a.at + 0 * a.step ≡ a.at = omega arith in
    rw (e, f) refl

pub overflow_mul-i : goal.overflow_mul-i
overflow_mul-i c = omega (arith, col_fits c.loop-i.i c.args.n c.args.step (omega arith), c.requires.small)

pub overflow_add-at : goal.overflow_add-at
overflow_add-at c = omega (arith, col_fits c.loop-i.i c.args.n c.args.step (omega arith), c.requires.small)

pub row_ok-requires : goal.row_ok-requires
row_ok-requires c =
    let f : c.loop-i.i * c.args.step + c.args.step ≤ c.args.n * c.args.step = col_fits c.loop-i.i c.args.n c.args.step (omega arith) in
    record { room = omega (arith, f, c.requires.room); small = omega (arith, f, c.requires.small) }

pub loop-i-preserved : goal.loop-i-preserved
loop-i-preserved c =
    let a = c.args in
    let i = c.loop-i.i in
    let r = sym c.row_ok.ensures ∙ c.if-not-row_ok.false in
    let t = ok_turn a.three a.p (bits_of a.s.now) (a.at + i * a.step) a.step a.n i (omega arith) in
    let e : a.at + (i + 1) * a.step ≡ a.at + i * a.step + a.step = omega (arith, next_col i a.step) in
    rw e (sym (t ∙ rw r) ∙ c.loop-i.invariant)

pub returns-then-not-row_ok : goal.returns-then-not-row_ok
returns-then-not-row_ok c =
    let a = c.args in
    let r = sym c.row_ok.ensures ∙ c.if-not-row_ok.true in
    let t = ok_turn a.three a.p (bits_of a.s.now) (a.at + c.loop-i.i * a.step) a.step a.n c.loop-i.i (omega arith) in
    sym (sym c.loop-i.invariant ∙ (t ∙ rw r))

pub returns : goal.returns
returns c =
    let a = c.args in
    sym (ok_none a.three a.p (bits_of a.s.now) (a.at + c.loop-i.i * a.step) a.step a.n c.loop-i.i (omega arith)) ∙ c.loop-i.invariant
