-- `sheet_fields::put_particles` meets its contract. Assumes nothing.
use native.Mathlib.Omega.{arith}
use Prim.Native.Nat.{◌-◌}
use mathlib.Core.Path.{◌≡◌, ◌∙◌, refl}
use mathlib.Core.List.{[], ◌∷◌, map}
use lib.IntN.{pos}
use lib.ListN.{length, get_or}
use Rattle.bits.specs.Bits.{bits_of}
use Rattle.bits.proofs.RowLaws.{fewer, rows_none}
use Rattle.sheet.specs.Sheet.{the_field_of, particle_w}
use Rattle.sheet_fields.proofs.WholeLaws.{fields_long, read_field, row_turn}
use Rattle.sheet_fields.proofs.put_particles.Goals as goal

pub loop-i-init : goal.loop-i-init
loop-i-init c =
    let n = length c.args.x.now in
    let e : n - 0 ≡ n = omega arith in
    let f = fields_long c.args.x.now in
    rw e (omega arith, refl, omega (arith, c.requires.room), omega (arith, c.requires.small), refl)

pub put_row-requires : goal.put_row-requires
put_row-requires c =
    let f = fewer (length c.args.x.now) c.loop-i.i 23 (omega arith) in
    record { room = omega arith; small = omega arith; narrow0 = omega arith; narrow1 = omega arith; narrow2 = omega arith }

pub overflow_add-pos : goal.overflow_add-pos
overflow_add-pos c = omega (arith, fewer (length c.args.x.now) c.loop-i.i 23 (omega arith))

pub loop-i-preserved : goal.loop-i-preserved
loop-i-preserved c =
    let a = c.args in
    let l = c.loop-i in
    let n = length a.x.now in
    let f = fewer n l.i 23 (omega arith) in
    let t = row_turn a.x.now a.y.now a.pinned.now (bits_of l.s) n l.i l.pos c.field_of-across.result c.field_of-up.result (omega arith)
    (read_field _ (get_or a.x.now l.i (pos 0)) c.field_of-arg-1.given c.field_of-across.ensures) (read_field _ (get_or a.y.now l.i (pos 0)) c.field_of-arg-in-loop-i-1.given c.field_of-up.ensures) in
    (omega arith, c.put_row.auto.s ∙ l.invariant.1, omega arith, omega arith, rw c.put_row.ensures (t ∙ l.invariant.4))

pub returns : goal.returns
returns c =
    let a = c.args in
    let l = c.loop-i in
    let z = rows_none particle_w (map the_field_of a.x.now ∷ map the_field_of a.y.now ∷ a.pinned.now ∷ []) (length a.x.now) l.i (omega arith) in
    rw (fields_long a.x.now) (rw z at l.invariant.4)
