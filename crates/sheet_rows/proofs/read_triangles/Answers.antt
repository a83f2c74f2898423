-- `sheet_rows::read_triangles` meets its contract. Assumes nothing.
use Rattle.sheet_rows.proofs.RowReads.{no_triangles, tab_more, triangle_same, edge_made, first_right, two_named, three_named}
use Rattle.sheet.specs.Work.{ok_at_of}
use Rattle.split_plan.specs.Opened.{place_in}
use Rattle.sheet_rows.specs.Work.{triangle_bits}
use Rattle.bits.specs.Bits.{num, bits_of, field_at}
use Rattle.mesh.specs.At.{triangles_at}
use Rattle.lists.specs.Lists.{tab}
use lib.Ieee.{of_bits}
use lib.ListN.{length}
use Prim.Native.Nat.{ℕ, ◌+◌, ◌*◌, ◌-◌, ◌≤◌}
use native.Mathlib.Omega.{arith}
use mathlib.Core.Path.{◌≡◌, ◌∙◌, refl, subst}
use mathlib.Core.Bool.{Bool, true, false}
use Rattle.sheet_rows.proofs.read_triangles.Goals as goal

pub loop-i-init : goal.loop-i-init
loop-i-init c = let e : c.args.n - 0 ≡ c.args.n = omega arith in (omega arith, refl, refl, omega arith, rw e c.requires.names, no_triangles _ _ _)

pub field-a-requires : goal.field-a-requires
field-a-requires c = let p = c.requires.rows in record { room = omega (arith, c.requires.rows.room, c.loop-i.invariant.3); narrow = omega arith; small = omega (arith, c.requires.rows.small, c.loop-i.invariant.3) }

pub field-b-requires : goal.field-b-requires
field-b-requires c = let p = c.requires.rows in record { room = omega (arith, c.requires.rows.room, c.loop-i.invariant.3); narrow = omega arith; small = omega (arith, c.requires.rows.small, c.loop-i.invariant.3) }

pub field-c-requires : goal.field-c-requires
field-c-requires c = let p = c.requires.rows in record { room = omega (arith, c.requires.rows.room, c.loop-i.invariant.3); narrow = omega arith; small = omega (arith, c.requires.rows.small, c.loop-i.invariant.3) }

pub put_triangle-requires : goal.put_triangle-requires
put_triangle-requires c = let a = c.args in let l = c.loop-i in let w = first_right true a.p (bits_of a.s.now) l.pos 30 a.n l.i (omega arith) l.invariant.4 in
    let r = three_named a.p (field_at (bits_of a.s.now) l.pos 10) (field_at (bits_of a.s.now) (l.pos + 10) 10) (field_at (bits_of a.s.now) (l.pos + 20) 10) w.0 in
    let q = c.requires in
    record { first = omega (arith, r.0, c.field-a.ensures.0, q.points); second = omega (arith, r.1, c.field-b.ensures.0, q.points); third = omega (arith, r.2, c.field-c.ensures.0, q.points); corners = omega (arith, q.corners, l.invariant.1); volumes = omega (arith, q.volumes, l.invariant.2) }

pub loop-i-preserved : goal.loop-i-preserved
loop-i-preserved c = let a = c.args in let l = c.loop-i in let w = first_right true a.p (bits_of a.s.now) l.pos 30 a.n l.i (omega arith) l.invariant.4 in
    (omega arith, c.put_triangle.auto.corners ∙ l.invariant.1, c.put_triangle.auto.volumes ∙ l.invariant.2, omega (arith, l.invariant.3), w.1, tab_more (triangle_bits (place_in a.points.now) (bits_of a.s.now) a.at) l.i _ _ _ c.put_triangle.ensures l.invariant.5 (triangle_same _ _ _ _ _ _ _ _ l.invariant.3 c.field-a.ensures.0 c.field-b.ensures.0 c.field-c.ensures.0))

pub shape_of-corners : goal.shape_of-corners
shape_of-corners c = c.loop-i.invariant.1

pub shape_of-volumes : goal.shape_of-volumes
shape_of-volumes c = c.loop-i.invariant.2

pub returns : goal.returns
returns c = let a = c.args in let l = c.loop-i in let e : l.i ≡ a.n = omega arith in
    subst (λ (m : ℕ). triangles_at m l.corners l.volumes ≡ tab m (triangle_bits (place_in a.points.now) (bits_of a.s.now) a.at)) e l.invariant.5
