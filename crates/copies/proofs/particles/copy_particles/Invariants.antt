-- `copies::particles::copy_particles` meets its contract: the loop is `Copying` of proofs/ParticleLaws.antt. Assumes nothing.
use Rattle.copies.proofs.ParticleLaws.{Copying, copying_start, copying_more, copying_done}
use mathlib.Core.Path.{◌∙◌}
use borrow.Author.Rules.{rules}
use native.Mathlib.Omega.{arith}
use Prim.Native.Nat.{◌-◌}
use Rattle.copies.proofs.particles.copy_particles.Given as goal

-- `copies::particles::copy_particles` meets its contract: the loop is `Copying` of proofs/ParticleLaws.antt. Assumes nothing.
abbrev pub invariant-loop-g : goal.invariant-loop-g
invariant-loop-g l = Copying l.v l.n l.count l.parts l.total l.groups l.measures l.initial.points l.initial.roots l.points l.roots l.g

abbrev pub decreases-loop-g : goal.decreases-loop-g
decreases-loop-g l = l.count - 1 - l.g
