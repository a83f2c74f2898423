-- `sheet_rows::read_particles` meets its contract. Assumes nothing.
use Rattle.sheet_rows.proofs.RowReads.{no_particles, tab_more, particle_same}
use Rattle.sheet_rows.specs.Work.{particle_bits}
use Rattle.bits.specs.Bits.{bits_of}
use Rattle.mesh.specs.At.{particles_at}
use Rattle.lists.specs.Lists.{tab}
use lib.ListN.{length}
use Prim.Native.Nat.{ℕ, ◌+◌, ◌*◌, ◌-◌, ◌≤◌}
use native.Mathlib.Omega.{arith}
use mathlib.Core.Path.{◌≡◌, ◌∙◌, refl, subst}
use Rattle.sheet_rows.proofs.read_particles.Goals as goal

pub loop-i-init : goal.loop-i-init
loop-i-init c = (omega arith, refl, refl, omega arith, no_particles _ _ _)

pub field-x-requires : goal.field-x-requires
field-x-requires c = let p = c.requires.rows in record { room = omega (arith, c.requires.rows.room, c.loop-i.invariant.3); narrow = omega arith; small = omega (arith, c.requires.rows.small, c.loop-i.invariant.3) }

pub field-y-requires : goal.field-y-requires
field-y-requires c = let p = c.requires.rows in record { room = omega (arith, c.requires.rows.room, c.loop-i.invariant.3); narrow = omega arith; small = omega (arith, c.requires.rows.small, c.loop-i.invariant.3) }

pub field-pinned-requires : goal.field-pinned-requires
field-pinned-requires c = let p = c.requires.rows in record { room = omega (arith, c.requires.rows.room, c.loop-i.invariant.3); narrow = omega arith; small = omega (arith, c.requires.rows.small, c.loop-i.invariant.3) }

pub put_particle-requires : goal.put_particle-requires
put_particle-requires c = record { across = c.field-x.ensures.1; up = c.field-y.ensures.1; room = record { points = omega (arith, c.requires.room.points, c.loop-i.invariant.1); roots = omega (arith, c.requires.room.roots, c.loop-i.invariant.2) } }

pub loop-i-preserved : goal.loop-i-preserved
loop-i-preserved c = let a = c.args in let l = c.loop-i in
    (omega arith, c.put_particle.auto.points ∙ l.invariant.1, c.put_particle.auto.roots ∙ l.invariant.2, omega (arith, l.invariant.3), tab_more (particle_bits (bits_of a.s.now) a.at) l.i _ _ _ c.put_particle.ensures l.invariant.4 (particle_same _ _ _ _ _ _ _ l.invariant.3 c.field-x.ensures.0 c.field-y.ensures.0 c.field-pinned.ensures.0))

pub shape_of-points : goal.shape_of-points
shape_of-points c = c.loop-i.invariant.1

pub shape_of-roots : goal.shape_of-roots
shape_of-roots c = c.loop-i.invariant.2

pub returns : goal.returns
returns c = let a = c.args in let l = c.loop-i in let e : l.i ≡ a.n = omega arith in
    subst (λ (m : ℕ). particles_at m l.points l.roots ≡ tab m (particle_bits (bits_of a.s.now) a.at)) e l.invariant.4
