-- `mesh_tables::corners::corners_of` meets its contract. Assumes nothing.
use borrow.Author.Rules.{rules}
use native.Mathlib.Omega.{arith}
use Rattle.mesh_tables.proofs.Cornering.{corner_room, mesh_cornered}
use Rattle.mesh_tables.proofs.corners.corners_of.Goals as goal

pub kind_corners-n-requires : goal.kind_corners-n-requires
kind_corners-n-requires c = corner_room c.requires.0 c.requires.1

pub returns : goal.returns
returns c =
    let P = c.requires in
    let K = c.kind_corners-n in
    mesh_cornered _ _ _ _ P.0 c.kind_of-kind.ensures K.ensures c.corners_per-k.ensures
