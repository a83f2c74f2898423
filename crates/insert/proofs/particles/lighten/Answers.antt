use native.Mathlib.Omega.{arith}
use lib.ListN.{length-set}
use mathlib.Core.Path.{refl}
use Rattle.insert.proofs.InsertLaws.{lighten_is}
use borrow.Author.Rules.{rules}
use Rattle.insert.proofs.particles.lighten.Goals as goal

-- src/particles.rt:58:5
pub bounds-points-p-4 : goal.bounds-points-p-4
bounds-points-p-4 c = simp length-set (omega (arith, c.requires))

-- src/particles.rt:50:1
pub returns : goal.returns
returns c = lighten_is _ _ _ _ _ _ c.requires refl c.kept_inverse-w.ensures
