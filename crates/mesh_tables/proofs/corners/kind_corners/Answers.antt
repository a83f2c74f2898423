-- `mesh_tables::corners::kind_corners` meets its contract. Assumes nothing.
use borrow.Author.Rules.{rules}
use mathlib.Core.Path.{refl}
use Rattle.mesh_tables.proofs.Cornering.{kind_triangles, kind_straps, kind_nothing}
use Rattle.mesh_tables.proofs.corners.kind_corners.Goals as goal

pub triangle_corners-requires : goal.triangle_corners-requires
triangle_corners-requires c = (c.requires.corners, c.requires.verts.0)

pub strap_corners-requires : goal.strap_corners-requires
strap_corners-requires c = (c.requires.ends, c.requires.verts.1)

pub returns-in-Triangles : goal.returns-in-Triangles
returns-in-Triangles c = kind_triangles _ _ _ _ _ _ _ c.in-Triangles.is refl c.triangle_corners.ensures

pub returns-in-Straps : goal.returns-in-Straps
returns-in-Straps c = kind_straps _ _ _ _ _ _ _ c.in-Straps.is c.strap_corners.ensures

pub returns-in-Nothing : goal.returns-in-Nothing
returns-in-Nothing c = kind_nothing _ _ _ _ _ _ _ c.in-Nothing.is refl
