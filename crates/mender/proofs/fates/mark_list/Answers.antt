-- `mender::fates::mark_list` meets its contract. Assumes nothing.
use Rattle.mender.proofs.Puts.{mark_next, mark_end}
use Rattle.bits.proofs.RowLaws.{fewer}
use Rattle.bits.specs.Bits.{bits_of}
use lib.ListN.{length, length-set}
use native.Mathlib.Omega.{arith}
use mathlib.Core.Path.{◌≡◌, refl, ◌∙◌}
use Prim.Native.Nat.{◌-◌}
use Rattle.mender.proofs.fates.mark_list.Goals as goal

pub loop-i-init : goal.loop-i-init
loop-i-init c = let a = c.args in
    let e : length a.mask.now - 0 ≡ length a.mask.now = omega arith in
    rw e (omega arith, refl, c.requires.room, c.requires.small, refl)

pub field-a-requires : goal.field-a-requires
field-a-requires c = record { room = omega arith; narrow = omega arith; small = omega arith }

pub field-b-requires : goal.field-b-requires
field-b-requires c = record { room = omega arith; narrow = omega arith; small = omega arith }

pub field-c-requires : goal.field-c-requires
field-c-requires c = record { room = omega arith; narrow = omega arith; small = omega arith }

pub overflow_add-pos-in-loop-i-2 : goal.overflow_add-pos-in-loop-i-2
overflow_add-pos-in-loop-i-2 c = let f = fewer (length c.args.mask.now) c.loop-i.i c.args.step (omega arith) in omega arith

pub loop-i-preserved : goal.loop-i-preserved
loop-i-preserved c = let a = c.args in
    let l = c.loop-i in
    let n = length a.mask.now in
    let f = fewer n l.i a.step (omega arith) in
    let i1 = l.invariant.1 in
    (omega arith, length-set l.mask l.i c.fate.result ∙ l.invariant.1, omega arith, omega arith, mark_next a.three a.p (bits_of a.s.now) l.pos a.step n l.i c.fate.result _ _ _ l.mask _ (omega arith) (omega arith) c.fate.ensures c.field-a.ensures.0 c.field-b.ensures.0 c.field-c.ensures.0 l.invariant.4)

pub shape_of-mask : goal.shape_of-mask
shape_of-mask c = c.loop-i.invariant.1

pub returns : goal.returns
returns c = let a = c.args in
    let l = c.loop-i in
    let i1 = l.invariant.1 in
    mark_end a.three a.p (bits_of a.s.now) l.pos a.step (length a.mask.now) l.i l.mask _ (omega arith) (omega arith) l.invariant.4
