-- `bits::put_bit` meets its contract. Assumes nothing.
use native.Mathlib.Omega.{arith}
use Prim.Native.Nat.{suc, ◌-◌, ◌+◌, ◌*◌, ◌/◌, ◌%◌, ◌^◌}
use mathlib.Core.Path.{◌≡◌, ◌∙◌}
use lib.ListN.{get_or, set}
use Rattle.bits.specs.Bits.{bits}
use Rattle.bits.proofs.Laws.{put_small, bits_mod, bits_put, bits_of_set}
use borrow.Author.Rules.{rules}
use Rattle.bits.proofs.put_bit.Goals as goal

pub overflow_mul-n-2 : goal.overflow_mul-n-2
overflow_mul-n-2 c = let s = put_small c.from-o.result c.pow2-p.result c.args.b (omega arith) in omega arith

pub overflow_add-n-2 : goal.overflow_add-n-2
overflow_add-n-2 c = let s = put_small c.from-o.result c.pow2-p.result c.args.b (omega arith) in omega arith

pub returns : goal.returns
returns c =
    let a = c.args in
    let s = a.s.now in
    let at = a.at in
    let k = 7 - at % 8 in
    let o = get_or s (at / 8) 0 in
    let n = (o / 2 ^ k / 2 * 2 + a.b) * 2 ^ k + o % 2 ^ k in
    let w : at % 8 + suc k ≡ 8 = omega arith in
    let e : bits 8 (n % 256) ≡ set (bits 8 o) (at % 8) a.b = bits_mod 8 0 n ∙ rw w at (bits_put (at % 8) k o a.b (search rules)) in
    let q : 8 * (at / 8) + at % 8 ≡ at = omega arith in
    rw (c.from-o.ensures, c.pow2-p.ensures.is) (bits_of_set s (at / 8) (at % 8) (n % 256) a.b (search rules) (omega arith) e ∙ rw q)
