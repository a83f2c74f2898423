-- `copies::particles::copy_particles` meets its contract: the loop is `Copying` of proofs/ParticleLaws.antt. Assumes nothing.
use Rattle.copies.proofs.ParticleLaws.{Copying, copying_start, copying_more, copying_done}
use mathlib.Core.Path.{◌∙◌}
use borrow.Author.Rules.{rules}
use native.Mathlib.Omega.{arith}
use Prim.Native.Nat.{◌-◌}
use Rattle.copies.proofs.particles.copy_particles.Goals as goal

pub loop-g-init : goal.loop-g-init
loop-g-init c = copying_start _ _ _ _ _ _ _ _ _

pub weight_of-own-requires : goal.weight_of-own-requires
weight_of-own-requires c = (c.requires.groups_long, c.requires.measures_long)

pub mass_of-m-requires : goal.mass_of-m-requires
mass_of-m-requires c = c.requires.few

pub append_copy-requires : goal.append_copy-requires
append_copy-requires c = let R = c.requires in
    let L = c.loop-g.invariant in
    let l = c.loop-g-test.true in
    (omega (arith, R.here), record { points = omega (arith, c.loop-g.invariant.points_long, R.points, l); roots = omega (arith, c.loop-g.invariant.roots_long, R.roots, l) })

pub loop-g-preserved : goal.loop-g-preserved
loop-g-preserved c = copying_more _ _ _ _ _ _ _ _ _ _ _ _ _ _ _ _ _ c.loop-g.invariant c.requires.here c.loop-g-test.true c.weight_of-own.ensures c.mass_of-m.ensures c.inv-w.ensures
    c.append_copy.ensures c.append_copy.auto.points c.append_copy.auto.roots

pub weight_of-own-requires-2 : goal.weight_of-own-requires-2
weight_of-own-requires-2 c = (c.requires.groups_long, c.requires.measures_long)

pub mass_of-m-requires-2 : goal.mass_of-m-requires-2
mass_of-m-requires-2 c = c.requires.few

pub shape_of-points : goal.shape_of-points
shape_of-points c = c.weigh.auto.points ∙ c.loop-g.invariant.points_long

pub shape_of-roots : goal.shape_of-roots
shape_of-roots c = c.loop-g.invariant.roots_long

pub returns : goal.returns
returns c = copying_done _ _ _ _ _ _ _ _ _ _ _ _ _ _ _ _ c.requires c.loop-g.invariant (omega (arith, c.loop-g-test.false)) c.weight_of-own-2.ensures c.mass_of-m-2.ensures c.inv-w-2.ensures
    c.weigh.ensures
