-- `copies::particles::weigh` meets its contract: two stores in the row of v. Assumes nothing.
use Rattle.copies.proofs.ParticleLaws.{weighed_by}
use native.Mathlib.Omega.{arith}
use lib.ListN.{length-set}
use borrow.Author.Rules.{rules}
use Rattle.copies.proofs.particles.weigh.Goals as goal

pub bounds-points-size-2 : goal.bounds-points-size-2
bounds-points-size-2 c = simp length-set (omega arith)

pub returns : goal.returns
returns c = weighed_by _ _ _ _ c.requires
