-- `mesh_tables::tables::fan_of` meets its contract: the table of all elements, and the rows that hold v. Assumes nothing.
use Rattle.mesh_tables.proofs.Accepted.{fan_found}
use native.Mathlib.Omega.{arith}
use borrow.Author.Rules.{rules}
use Rattle.mesh_tables.proofs.tables.fan_of.Goals as goal

pub returns : goal.returns
returns c = let F = c.fan_table-fan in
    fan_found _ _ _ _ _ _ _ _ _ _ _ _ c.table-s.ensures F.ensures.fan_tabled F.ensures.upper_bound (omega (arith, c.requires.1.fan_long, F.auto.fan_verts))
