-- `mesh_tables::measures::whole_measure` meets its contract. Assumes nothing.
use borrow.Author.Rules.{rules}
use native.Mathlib.Omega.{arith}
use Rattle.mesh_tables.proofs.Accepted.{sizes_of}
use Rattle.mesh_tables.proofs.Summing.{whole_found}
use Rattle.mesh_tables.proofs.measures.whole_measure.Goals as goal

pub kind_sum-requires : goal.kind_sum-requires
kind_sum-requires c =
    let s = sizes_of c.requires in
    (omega (arith, s.triangles), omega arith, omega (arith, s.edges))

pub returns : goal.returns
returns c = whole_found _ c.requires c.kind_of-kind.ensures c.kind_sum.ensures
