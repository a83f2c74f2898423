-- `mesh::rows::retarget` meets its contract: a row of three columns is turned. Assumes nothing.
use Rattle.mesh.proofs.Lists.{retargeting}
use native.Mathlib.Omega.{arith}
use borrow.Author.Rules.{rules}
use Rattle.mesh.proofs.rows.retarget.Goals as goal

-- `mesh::rows::retarget` meets its contract: a row of three columns is turned. Assumes nothing.
pub turn_row-requires : goal.turn_row-requires
turn_row-requires c = record { here = c.requires; columns = omega arith }

pub returns : goal.returns
returns c = retargeting _ _ _ _ _ (search rules) c.turn_row.ensures
