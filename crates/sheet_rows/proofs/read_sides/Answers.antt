-- `sheet_rows::read_sides` meets its contract. Assumes nothing.
use Rattle.sheet_rows.proofs.RowReads.{no_sides, tab_more, side_same}
use Rattle.sheet_rows.specs.Work.{side_bits}
use Rattle.bits.specs.Bits.{bits_of}
use Rattle.mesh.specs.At.{boundary_at}
use Rattle.lists.specs.Lists.{tab}
use lib.ListN.{length}
use Prim.Native.Nat.{ℕ, ◌+◌, ◌*◌, ◌-◌, ◌≤◌}
use native.Mathlib.Omega.{arith}
use mathlib.Core.Path.{◌≡◌, ◌∙◌, refl, subst}
use Rattle.sheet_rows.proofs.read_sides.Goals as goal

pub loop-i-init : goal.loop-i-init
loop-i-init c = (omega arith, refl, omega arith, no_sides _ _)

pub field-requires : goal.field-requires
field-requires c = let p = c.requires.rows in record { room = omega (arith, c.requires.rows.room, c.loop-i.invariant.2); narrow = omega arith; small = omega (arith, c.requires.rows.small, c.loop-i.invariant.2) }

pub field-requires-in-loop-i : goal.field-requires-in-loop-i
field-requires-in-loop-i c = let p = c.requires.rows in record { room = omega (arith, c.requires.rows.room, c.loop-i.invariant.2); narrow = omega arith; small = omega (arith, c.requires.rows.small, c.loop-i.invariant.2) }

pub loop-i-preserved : goal.loop-i-preserved
loop-i-preserved c = let a = c.args in let l = c.loop-i in
    (omega arith, c.put_side.auto.outline ∙ l.invariant.1, omega (arith, l.invariant.2), tab_more (side_bits (bits_of a.s.now) a.at) l.i _ _ _ c.put_side.ensures l.invariant.3 (side_same _ _ _ _ _ _ l.invariant.2 c.field.ensures.0 c.field-in-loop-i.ensures.0))

pub shape_of-outline : goal.shape_of-outline
shape_of-outline c = c.loop-i.invariant.1

pub returns : goal.returns
returns c = let a = c.args in let l = c.loop-i in let e : l.i ≡ a.n = omega arith in
    subst (λ (m : ℕ). boundary_at m l.outline ≡ tab m (side_bits (bits_of a.s.now) a.at)) e l.invariant.3
