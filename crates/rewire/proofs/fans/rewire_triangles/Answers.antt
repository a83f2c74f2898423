-- `rewire::fans::rewire_triangles` meets its contract: `mesh::rows::rewire` by the fronts of the tables. Assumes nothing.
use lib.Seq.{length-take-le}
use mathlib.Core.Path.{sym}
use Rattle.rewire.proofs.FanLaws.{fan_ok, triangles_rewired}
use borrow.Author.Rules.{rules}
use Rattle.rewire.proofs.fans.rewire_triangles.Goals as goal

-- `rewire::fans::rewire_triangles` meets its contract: `mesh::rows::rewire` by the fronts of the tables. Assumes nothing.
pub slice_bounds-rewire-end : goal.slice_bounds-rewire-end
slice_bounds-rewire-end c = sym (length-take-le _ _ c.requires.numbers_long)

pub slice_bounds-rewire-end-2 : goal.slice_bounds-rewire-end-2
slice_bounds-rewire-end-2 c = sym (length-take-le _ _ c.requires.groups_long)

pub rewire-requires : goal.rewire-requires
rewire-requires c = fan_ok c.requires

pub returns : goal.returns
returns c = triangles_rewired c.requires c.rewire.ensures
