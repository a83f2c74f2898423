-- `mesh_tables::tables::table` meets its contract: the kind of the mesh, and the table of its elements. Assumes nothing.
use native.Mathlib.Omega.{arith}
use Rattle.mesh_tables.proofs.Accepted.{table_room, mesh_tabled}
use borrow.Author.Rules.{rules}
use Rattle.mesh_tables.proofs.tables.table.Goals as goal

pub element_table-n-requires : goal.element_table-n-requires
element_table-n-requires c = table_room c.requires.0 c.requires.1

pub returns : goal.returns
returns c = let P = c.requires in
    let T = c.element_table-n in
    mesh_tabled _ P.0 _ _ _ _ _ _ _ c.kind_of-kind.ensures T.ensures c.corners_per-k.ensures c.facet_others-others.ensures
