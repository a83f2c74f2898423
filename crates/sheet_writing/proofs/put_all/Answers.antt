-- `sheet_writing::put_all` meets its contract. Assumes nothing.
use Prim.Native.Nat.{◌*◌}
use mathlib.Core.Path.{sym, ◌∙◌}
use native.Mathlib.Omega.{arith}
use lib.ListN.{length}
use Rattle.sheet_fields.proofs.WholeLaws.{fields_long}
use Rattle.sheet_writing.specs.Writing.{Handed, columns_from}
use Rattle.sheet_writing.proofs.Putting.{put_done}
use Rattle.sheet_writing.proofs.put_all.Goals as goal

-- `sheet_writing::put_all` meets its contract. Assumes nothing.
pub overflow_mul-at_t : goal.overflow_mul-at_t
overflow_mul-at_t c = let n = c.requires.counts in omega (arith, c.requires.counts.particles, c.requires.counts.triangles, c.requires.counts.edges, fields_long c.args.x.now)

pub overflow_add-at_t : goal.overflow_add-at_t
overflow_add-at_t c = let n = c.requires.counts in omega (arith, c.requires.counts.particles, c.requires.counts.triangles, c.requires.counts.edges, fields_long c.args.x.now)

pub overflow_mul-at_e : goal.overflow_mul-at_e
overflow_mul-at_e c = let n = c.requires.counts in omega (arith, c.requires.counts.particles, c.requires.counts.triangles, c.requires.counts.edges, fields_long c.args.x.now)

pub overflow_add-at_e : goal.overflow_add-at_e
overflow_add-at_e c = let n = c.requires.counts in omega (arith, c.requires.counts.particles, c.requires.counts.triangles, c.requires.counts.edges, fields_long c.args.x.now)

pub overflow_mul-at_d : goal.overflow_mul-at_d
overflow_mul-at_d c = let n = c.requires.counts in omega (arith, c.requires.counts.particles, c.requires.counts.triangles, c.requires.counts.edges, fields_long c.args.x.now)

pub overflow_add-at_d : goal.overflow_add-at_d
overflow_add-at_d c = let n = c.requires.counts in omega (arith, c.requires.counts.particles, c.requires.counts.triangles, c.requires.counts.edges, fields_long c.args.x.now)

pub put_row-requires : goal.put_row-requires
put_row-requires c = let p = c.requires in record { room = omega (arith, p.room); small = omega arith; narrow0 = omega arith; narrow1 = omega arith; narrow2 = omega arith }

pub put_field-requires : goal.put_field-requires
put_field-requires c = let p = c.requires in record { room = omega (arith, p.room, c.put_row.auto.s); narrow = omega arith; small = omega arith }

pub put_particles-requires : goal.put_particles-requires
put_particles-requires c =
    let p = c.requires in
    let n = p.counts in
    let f = fields_long c.args.x.now in
    record { room = omega (arith, p.room, c.requires.counts.particles, c.put_field.auto.s, c.put_row.auto.s); small = omega (arith, c.requires.counts.particles, c.requires.counts.triangles, c.requires.counts.edges); narrow0 = omega arith; narrow1 = omega arith; narrow2 = omega arith; second = p.even.y; third = p.even.pinned }

pub put_rows-requires : goal.put_rows-requires
put_rows-requires c =
    let p = c.requires in
    let n = p.counts in
    let f = fields_long c.args.x.now in
    record { room = omega (arith, p.room, c.requires.counts.particles, c.put_particles.auto.s, c.put_field.auto.s, c.put_row.auto.s); small = omega (arith, c.requires.counts.particles, c.requires.counts.triangles, c.requires.counts.edges); narrow0 = omega arith; narrow1 = omega arith; narrow2 = omega arith; second = p.even.t1; third = p.even.t2 }

pub put_rows-requires-2 : goal.put_rows-requires-2
put_rows-requires-2 c =
    let p = c.requires in
    let n = p.counts in
    let f = fields_long c.args.x.now in
    record { room = omega (arith, p.room, c.requires.counts.particles, c.put_rows.auto.s, c.put_particles.auto.s, c.put_field.auto.s, c.put_row.auto.s); small = omega (arith, c.requires.counts.particles, c.requires.counts.triangles, c.requires.counts.edges); narrow0 = omega arith; narrow1 = omega arith; narrow2 = omega arith; second = p.even.e1; third = p.even.structural }

pub put_blade-requires : goal.put_blade-requires
put_blade-requires c =
    let p = c.requires in
    let n = p.counts in
    let f = fields_long c.args.x.now in
    (record { room = omega (arith, p.room, c.requires.counts.particles, c.put_rows-2.auto.s, c.put_rows.auto.s, c.put_particles.auto.s, c.put_field.auto.s, c.put_row.auto.s); small = omega (arith, c.requires.counts.particles, c.requires.counts.triangles, c.requires.counts.edges); narrow = omega arith; narrow2 = omega arith }, sym (fields_long c.args.blade.now) ∙ p.even.blade)

pub shape_of-s : goal.shape_of-s
shape_of-s c = c.put_blade.auto.s ∙ c.put_rows-2.auto.s ∙ c.put_rows.auto.s ∙ c.put_particles.auto.s ∙ c.put_field.auto.s ∙ c.put_row.auto.s

pub returns : goal.returns
returns c =
    let a = c.args in
    let p = c.requires in
    let h : Handed = record { x = a.x.now; y = a.y.now; pinned = a.pinned.now; t0 = a.t0.now; t1 = a.t1.now; t2 = a.t2.now; e0 = a.e0.now; e1 = a.e1.now; structural = a.structural.now; blade = a.blade.now } in
    let k = columns_from h in
    put_done k (length a.x.now) (8 * length a.s.now) _ _ _ _ _ _ _ (fields_long a.x.now) p.room p.zeros c.put_row.ensures c.put_field.ensures c.put_particles.ensures c.put_rows.ensures c.put_rows-2.ensures c.put_blade.ensures
