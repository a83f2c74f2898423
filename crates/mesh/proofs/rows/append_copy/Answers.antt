-- `mesh::rows::append_copy` meets its contract: a row is copied in each block, and mass and inverse mass are stored over it. Assumes nothing.
use lib.Ieee.{nan}
use Rattle.mesh.proofs.Lists.{pushed}
use lib.ListN.{length-set}
use native.Mathlib.Omega.{arith}
use Rattle.mesh.proofs.rows.append_copy.Goals as goal

pub bounds-points-p-2 : goal.bounds-points-p-2
bounds-points-p-2 c = simp length-set (omega (arith, c.copy_row.auto.s))

pub returns : goal.returns
returns c = pushed _ _ _ _ _ _ _ _ c.requires.0 c.requires.1.points c.requires.1.roots (c.copy_row.ensures nan) (c.copy_row-2.ensures 0) c.copy_row.auto.s c.copy_row-2.auto.s
