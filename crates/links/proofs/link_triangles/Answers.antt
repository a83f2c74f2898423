-- `links::link_triangles` meets its contract: by cases of the kind (proofs/Accepted.antt). Assumes nothing.
use Rattle.links.proofs.Accepted.{build_room, linked_built, linked_straps, linked_nothing}
use Rattle.elements.specs.Table.{kind_is}
use mathlib.Core.Path.{ap}
use Rattle.links.proofs.link_triangles.Goals as goal

pub build_links-requires : goal.build_links-requires
build_links-requires c = (build_room c.requires.0 (ap kind_is c.in-Triangles.is), c.requires.1)

pub returns-in-Triangles : goal.returns-in-Triangles
returns-in-Triangles c = linked_built c.requires.0 c.build_links.auto.table c.build_links.ensures

pub returns-in-Straps : goal.returns-in-Straps
returns-in-Straps c = linked_straps (ap kind_is c.in-Straps.is)

pub returns-in-Nothing : goal.returns-in-Nothing
returns-in-Nothing c = linked_nothing (ap kind_is c.in-Nothing.is)
