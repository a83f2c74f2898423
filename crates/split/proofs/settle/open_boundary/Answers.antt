-- `split::settle::open_boundary` meets its contract: the entries follow, then the facets are appended. Assumes nothing.
use mathlib.Core.Path.{◌∙◌}
use native.Mathlib.Omega.{arith}
use Rattle.split.proofs.LinkLaws.{facets_next}
use Rattle.split.proofs.OutlineLaws.{sides_room, boundary_told, facets_on}
use borrow.Author.Rules.{rules}
use Rattle.split.proofs.settle.open_boundary.Goals as goal

pub follow_boundary-requires : goal.follow_boundary-requires
follow_boundary-requires c = (sides_room _ _ _ _ _ _ _ _ _ _ _ c.args.corners.now _ c.requires.0 _ c.corners_per-k.ensures, c.requires.1.table_is.linked, omega (arith, c.requires.1.table_is.linked.few, c.requires.2))

pub open_facets-requires : goal.open_facets-requires
open_facets-requires c = (facets_on c.follow_boundary.auto.outline c.requires.0.facets, facets_next c.requires.1 c.follow_boundary.ensures.1)

pub shape_of-outline : goal.shape_of-outline
shape_of-outline c = c.open_facets.auto.outline ∙ c.follow_boundary.auto.outline

pub shape_of-table : goal.shape_of-table
shape_of-table c = c.open_facets.auto.table ∙ c.follow_boundary.auto.table

pub shape_of-list : goal.shape_of-list
shape_of-list c = c.follow_boundary.auto.list

pub returns : goal.returns
returns c = (boundary_told _ _ _ _ _ _ _ _ _ _ _ _ _ c.requires.0 _ _ _ _ c.corners_per-k.ensures c.follow_boundary.ensures.0 c.open_facets.ensures.0, c.open_facets.ensures.1)
