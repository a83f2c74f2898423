-- `sheet_rows::read_edges` meets its contract. Assumes nothing.
use Rattle.sheet_rows.proofs.RowReads.{no_edges, tab_more, triangle_same, edge_made, first_right, two_named, three_named}
use Rattle.sheet.specs.Work.{ok_at_of}
use Rattle.split_plan.specs.Opened.{place_in}
use Rattle.sheet_rows.specs.Work.{edge_bits}
use Rattle.bits.specs.Bits.{num, bits_of, field_at}
use Rattle.mesh.specs.At.{edges_at}
use Rattle.lists.specs.Lists.{tab}
use lib.Ieee.{of_bits}
use lib.ListN.{length}
use Prim.Native.Nat.{ℕ, ◌+◌, ◌*◌, ◌-◌, ◌≤◌}
use native.Mathlib.Omega.{arith}
use mathlib.Core.Path.{◌≡◌, ◌∙◌, refl, subst}
use mathlib.Core.Bool.{Bool, true, false}
use Rattle.sheet_rows.proofs.read_edges.Goals as goal

pub loop-i-init : goal.loop-i-init
loop-i-init c = let e : c.args.n - 0 ≡ c.args.n = omega arith in (omega arith, refl, refl, omega arith, rw e c.requires.names, no_edges _ _ _)

pub field-a-requires : goal.field-a-requires
field-a-requires c = let p = c.requires.rows in record { room = omega (arith, c.requires.rows.room, c.loop-i.invariant.3); narrow = omega arith; small = omega (arith, c.requires.rows.small, c.loop-i.invariant.3) }

pub field-b-requires : goal.field-b-requires
field-b-requires c = let p = c.requires.rows in record { room = omega (arith, c.requires.rows.room, c.loop-i.invariant.3); narrow = omega arith; small = omega (arith, c.requires.rows.small, c.loop-i.invariant.3) }

pub span-w-requires : goal.span-w-requires
span-w-requires c = let a = c.args in let l = c.loop-i in let w = first_right false a.p (bits_of a.s.now) l.pos 21 a.n l.i (omega arith) l.invariant.4 in
    let r = two_named false a.p (field_at (bits_of a.s.now) l.pos 10) (field_at (bits_of a.s.now) (l.pos + 10) 10) (field_at (bits_of a.s.now) (l.pos + 20) 10) w.0 in
    (omega (arith, r.0, c.field-a.ensures.0, c.requires.points), omega (arith, r.1, c.field-b.ensures.0, c.requires.points))

pub field-requires : goal.field-requires
field-requires c = let p = c.requires.rows in record { room = omega (arith, c.requires.rows.room, c.loop-i.invariant.3); narrow = omega arith; small = omega (arith, c.requires.rows.small, c.loop-i.invariant.3) }

pub append_edge-requires : goal.append_edge-requires
append_edge-requires c = let q = c.requires.room in let l = c.loop-i in record { ends = omega (arith, c.requires.room.ends, l.invariant.1); lengths = omega (arith, c.requires.room.lengths, l.invariant.2) }

pub loop-i-preserved : goal.loop-i-preserved
unfolding of_bits
loop-i-preserved c = let a = c.args in let l = c.loop-i in let w = first_right false a.p (bits_of a.s.now) l.pos 21 a.n l.i (omega arith) l.invariant.4 in
    (omega arith, c.append_edge.auto.ends ∙ l.invariant.1, c.append_edge.auto.lengths ∙ l.invariant.2, omega (arith, l.invariant.3), w.1, tab_more (edge_bits (place_in a.points.now) (bits_of a.s.now) a.at) l.i _ _ _ c.append_edge.ensures l.invariant.5 (edge_made (place_in a.points.now) _ _ _ _ _ _ _ _ l.invariant.3 c.field-a.ensures.0 c.field-b.ensures.0 c.field.ensures.0 c.span-w.ensures))

pub shape_of-ends : goal.shape_of-ends
shape_of-ends c = c.loop-i.invariant.1

pub shape_of-lengths : goal.shape_of-lengths
shape_of-lengths c = c.loop-i.invariant.2

pub returns : goal.returns
returns c = let a = c.args in let l = c.loop-i in let e : l.i ≡ a.n = omega arith in
    subst (λ (m : ℕ). edges_at m l.ends l.lengths ≡ tab m (edge_bits (place_in a.points.now) (bits_of a.s.now) a.at)) e l.invariant.5
