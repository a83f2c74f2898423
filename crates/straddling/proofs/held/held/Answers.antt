-- `straddling::held::held` meets its contract: by cases of the kind. Assumes nothing.
use Rattle.straddling.proofs.HeldLaws.{walk_room, edge_walk_room, held_triangles, held_straps, held_nothing}
use Rattle.elements.specs.Table.{kind_is}
use mathlib.Core.Path.{ap}
use borrow.Author.Rules.{rules}
use Rattle.straddling.proofs.held.held.Goals as goal

pub any_triangle-requires : goal.any_triangle-requires
any_triangle-requires c = walk_room c.requires (ap kind_is c.in-Triangles.is)

pub any_strap-requires : goal.any_strap-requires
any_strap-requires c = edge_walk_room c.requires

pub returns-in-Triangles : goal.returns-in-Triangles
returns-in-Triangles c = rw c.in-Triangles.is (held_triangles _ _ _ _ _ _ _ c.any_triangle.ensures)

pub returns-in-Straps : goal.returns-in-Straps
returns-in-Straps c = rw c.in-Straps.is (held_straps _ _ _ _ _ _ _ c.any_strap.ensures)

pub returns-in-Nothing : goal.returns-in-Nothing
returns-in-Nothing c = rw c.in-Nothing.is (held_nothing _ _ _ _ _ _)
