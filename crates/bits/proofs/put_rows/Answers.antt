-- `bits::put_rows` meets its contract. Assumes nothing.
use native.Mathlib.Omega.{arith}
use Prim.Native.Nat.{◌-◌, ◌+◌}
use mathlib.Core.Path.{◌≡◌, ◌∙◌, refl}
use mathlib.Core.List.{[], ◌∷◌}
use lib.ListN.{length, get_or}
use Rattle.bits.specs.Bits.{bits_of}
use Rattle.bits.specs.Rows.{pack, write_rows, rows_of, total}
use Rattle.bits.proofs.RowLaws.{fewer, rows_turn, rows_none, sets_then, length_pack}
use Rattle.bits.proofs.put_rows.Goals as goal

pub loop-i-init : goal.loop-i-init
loop-i-init c =
    let a = c.args in
    let e : length a.a.now - 0 ≡ length a.a.now = omega arith in
    rw e (omega arith, refl, c.requires.room, c.requires.small, refl)

pub put_row-requires : goal.put_row-requires
put_row-requires c = let f = fewer (length c.args.a.now) c.loop-i.i (c.args.w0 + c.args.w1 + c.args.w2) (omega arith) in record { room = omega arith; small = omega arith; narrow0 = c.requires.narrow0; narrow1 = c.requires.narrow1; narrow2 = c.requires.narrow2 }

pub overflow_add-pos : goal.overflow_add-pos
overflow_add-pos c = let f = fewer (length c.args.a.now) c.loop-i.i (c.args.w0 + c.args.w1 + c.args.w2) (omega arith) in omega arith

pub loop-i-preserved : goal.loop-i-preserved
unfolding total
loop-i-preserved c =
    let a = c.args in
    let l = c.loop-i in
    let f = fewer (length c.args.a.now) c.loop-i.i (c.args.w0 + c.args.w1 + c.args.w2) (omega arith) in
    let cols = a.a.now ∷ a.b.now ∷ a.c.now ∷ [] in
    let ws = a.w0 ∷ a.w1 ∷ a.w2 ∷ [] in
    let row = get_or a.a.now l.i 0 ∷ get_or a.b.now l.i 0 ∷ get_or a.c.now l.i 0 ∷ [] in
    let t = rows_turn ws cols (length a.a.now) l.i (omega arith) in
    let k : l.pos + length (pack ws row) ≡ l.pos + (a.w0 + a.w1 + a.w2) = omega (arith, length_pack ws row) in
    let m = sets_then (bits_of l.s) l.pos (l.pos + (a.w0 + a.w1 + a.w2)) (pack ws row) (write_rows ws (rows_of cols (l.i + 1) (length a.a.now - (l.i + 1)))) k in
    (omega arith, c.put_row.auto.s ∙ l.invariant.1, omega arith, omega arith, rw c.put_row.ensures (m ∙ rw (← t) l.invariant.4))

pub returns : goal.returns
returns c =
    let a = c.args in
    let l = c.loop-i in
    let z = rows_none (a.w0 ∷ a.w1 ∷ a.w2 ∷ []) (a.a.now ∷ a.b.now ∷ a.c.now ∷ []) (length a.a.now) l.i (omega arith) in
    rw z at l.invariant.4
