-- `mender::write::put_kept` meets its contract. Assumes nothing.
use Rattle.mender.proofs.Puts.{zeros_step, kept_next, kept_end, zeros_over}
use Rattle.bits.proofs.RowLaws.{fewer}
use Rattle.bits.specs.Rows.{read_rows}
use Rattle.bits.specs.Bits.{bits_of}
use lib.ListN.{length, drop}
use native.Mathlib.Omega.{arith}
use mathlib.Core.List.{[], ◌∷◌}
use mathlib.Core.Path.{◌≡◌, refl, ◌∙◌}
use Prim.Native.Nat.{◌+◌, ◌-◌}
use Rattle.mender.proofs.write.put_kept.Goals as goal

pub loop-i-init : goal.loop-i-init
loop-i-init c = let a = c.args in
    let e : length a.mask.now - 0 ≡ length a.mask.now = omega arith in
    rw e (omega arith, refl, c.requires.room, c.requires.small, refl, refl)

pub put_one-end-requires : goal.put_one-end-requires
put_one-end-requires c = let a = c.args in
    let p = c.requires in
    let l = c.loop-i in
    let w = a.w0 + a.w1 + a.w2 in
    let f = fewer (length a.mask.now) l.i w (omega arith) in
    let z = zeros_step a.mask.now l.i w (omega arith) in
    let i4 = l.invariant.4 in
    let i1 = l.invariant.1 in
    record { room = omega arith; small = omega arith; narrow0 = p.narrow0; narrow1 = p.narrow1; narrow2 = p.narrow2; lent = omega (arith, p.lent); short = omega (arith, p.short) }

pub overflow_add-from : goal.overflow_add-from
overflow_add-from c = let a = c.args in let f = fewer (length a.mask.now) c.loop-i.i (a.w0 + a.w1 + a.w2) (omega arith) in omega arith

pub loop-i-preserved : goal.loop-i-preserved
loop-i-preserved c = let a = c.args in
    let l = c.loop-i in
    let w = a.w0 + a.w1 + a.w2 in
    let f = fewer (length a.mask.now) l.i w (omega arith) in
    let z = zeros_step a.mask.now l.i w (omega arith) in
    let i4 = l.invariant.4 in
    let k = c.put_one-end.ensures in
    let x = k.next in
    (omega arith, c.put_one-end.auto.out ∙ l.invariant.1, omega arith, omega arith, omega arith, kept_next a.s.now a.mask.now l.out _ _ a.w0 a.w1 a.w2 l.from l.end _ (length a.mask.now) l.i (omega arith) (omega arith) k l.invariant.5)

pub shape_of-out : goal.shape_of-out
shape_of-out c = c.loop-i.invariant.1

pub returns : goal.returns
returns c = let a = c.args in
    let l = c.loop-i in
    let w = a.w0 + a.w1 + a.w2 in
    record { bits = kept_end (a.w0 ∷ a.w1 ∷ a.w2 ∷ []) a.mask.now (bits_of l.out) _ l.end l.i (read_rows (a.w0 ∷ a.w1 ∷ a.w2 ∷ []) (length a.mask.now - l.i) (drop l.from (bits_of a.s.now))) (omega arith) l.invariant.5; next = zeros_over a.mask.now l.i w l.end _ (omega arith) l.invariant.4 }
