-- `mesh_tables::measures::kind_sum` meets its contract. Assumes nothing.
use borrow.Author.Rules.{rules}
use lib.Ieee.{of_bits}
use mathlib.Core.Path.{refl}
use Rattle.mesh_tables.proofs.Summing.{sum_triangles, sum_straps, sum_nothing}
use Rattle.mesh_tables.proofs.measures.kind_sum.Goals as goal

pub triangle_sum-requires : goal.triangle_sum-requires
triangle_sum-requires c = c.requires.0

pub strap_sum-requires : goal.strap_sum-requires
strap_sum-requires c = (c.requires.1, c.requires.2)

pub returns-in-Triangles : goal.returns-in-Triangles
returns-in-Triangles c = sum_triangles _ _ _ _ _ _ _ c.in-Triangles.is c.triangle_sum.ensures

pub returns-in-Straps : goal.returns-in-Straps
returns-in-Straps c = sum_straps _ _ _ _ _ _ _ c.in-Straps.is c.strap_sum.ensures

pub returns-in-Nothing : goal.returns-in-Nothing
unfolding of_bits
returns-in-Nothing c = sum_nothing _ _ _ _ _ _ _ c.in-Nothing.is refl
