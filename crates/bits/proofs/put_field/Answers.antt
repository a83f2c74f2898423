-- `bits::put_field` meets its contract. Assumes nothing.
use native.Mathlib.Omega.{arith}
use mathlib.Core.Path.{◌≡◌, ◌∙◌, refl}
use lib.ListN.{length, take}
use lib.Seq.{take_all, length-take-le}
use Rattle.bits.specs.Bits.{bits}
use Rattle.bits.proofs.Laws.{take_bits, sets_snoc, length_bits}
use Rattle.bits.proofs.put_field.Goals as goal

pub loop-k-init : goal.loop-k-init
loop-k-init c = (omega arith, refl, refl)

pub loop-k-preserved : goal.loop-k-preserved
loop-k-preserved c =
    let a = c.args in
    let l = c.loop-k in
    let e : length (take l.k (bits a.w a.v)) ≡ l.k = length-take-le l.k (bits a.w a.v) (omega (arith, length_bits a.w a.v)) in (
      omega arith,
      c.put_bit.auto.s ∙ l.invariant.1,
      c.put_bit.ensures ∙ rw (c.pow2.ensures.is, l.invariant.2, take_bits a.w a.v l.k (omega arith), sets_snoc, e),
    )

pub returns : goal.returns
returns c =
    let a = c.args in
    let e : take c.loop-k.k (bits a.w a.v) ≡ bits a.w a.v = take_all c.loop-k.k (bits a.w a.v) (omega (arith, length_bits a.w a.v)) in
    c.loop-k.invariant.2 ∙ rw e
