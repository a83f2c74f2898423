-- `split::settle::open_facets` meets its contract: triangles have crack facets, straps and nothing have none. Assumes nothing.
use Rattle.elements.specs.Table.{kind_is}
use mathlib.Core.Path.{ap}
use Rattle.split.proofs.OutlineLaws.{facet_room, facets_triangles, facets_straps, facets_nothing}
use borrow.Author.Rules.{rules}
use Rattle.split.proofs.settle.open_facets.Goals as goal

pub crack_facets-requires : goal.crack_facets-requires
crack_facets-requires c = let R = facet_room _ _ _ _ _ _ _ _ _ _ _ c.in-Triangles.is c.requires.0 in (R.0, R.1, c.requires.1.sound (ap kind_is c.in-Triangles.is), c.requires.1.table_is)

pub returns-in-Triangles : goal.returns-in-Triangles
returns-in-Triangles c = (facets_triangles _ _ _ _ _ _ _ _ _ _ _ _ _ _ c.in-Triangles.is c.crack_facets.ensures.0, c.crack_facets.ensures.1)

pub returns-in-Straps : goal.returns-in-Straps
returns-in-Straps c = (facets_straps _ _ _ _ _ _ _ _ _ _ _ _ c.in-Straps.is c.requires.0.rows, c.requires.1.table_is.linked)

pub returns-in-Nothing : goal.returns-in-Nothing
returns-in-Nothing c = (facets_nothing _ _ _ _ _ _ _ _ _ _ _ _ c.in-Nothing.is c.requires.0.rows, c.requires.1.table_is.linked)
