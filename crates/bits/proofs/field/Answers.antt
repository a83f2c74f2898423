-- `bits::field` meets its contract. Assumes nothing.
use native.Mathlib.Omega.{arith}
use Prim.Native.Nat.{◌^◌, ◌≤◌}
use mathlib.Core.Path.{◌≡◌, sym, refl}
use lib.Pow.{pow_mono}
use native.Mathlib.Nat.{pow-suc}
use native.Mathlib.Numerals.{add-one}
use Rattle.bits.specs.Bits.{num, bits_of}
use Rattle.bits.proofs.Laws.{field_more, length_bits_of}
use Rattle.bits.proofs.field.Goals as goal

pub loop-k-init : goal.loop-k-init
unfolding num
loop-k-init c = (omega arith, refl, omega arith)

pub overflow_mul-r : goal.overflow_mul-r
overflow_mul-r c = let s : 2 ^ c.loop-k.k ≤ 2 ^ 12 = pow_mono {j = 12} (omega arith) in omega arith

pub overflow_add-r : goal.overflow_add-r
overflow_add-r c = let s : 2 ^ c.loop-k.k ≤ 2 ^ 12 = pow_mono {j = 12} (omega arith) in omega arith

pub loop-k-preserved : goal.loop-k-preserved
loop-k-preserved c =
    let a = c.args in
    let l = c.loop-k in
    let b = c.bit.ensures in (
      omega arith,
      rw (l.invariant.1, b.0) (sym (field_more (bits_of a.s.now) a.at l.k (omega (arith, length_bits_of a.s.now)))),
      rw add-one (omega (arith, pow-suc 2 l.k)),
    )

pub returns : goal.returns
returns c = let e : c.loop-k.k ≡ c.args.w = omega arith in (rw (← e) c.loop-k.invariant.1, rw (← e) c.loop-k.invariant.2)
