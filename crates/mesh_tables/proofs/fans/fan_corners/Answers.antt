-- `mesh_tables::fans::fan_corners` meets its contract: the elements of the kind. Assumes nothing.
use mathlib.Core.Path.{refl}
use Rattle.mesh_tables.proofs.FanLaws.{corners_triangles, corners_straps, corners_nothing}
use borrow.Author.Rules.{rules}
use Rattle.mesh_tables.proofs.fans.fan_corners.Goals as goal

pub returns-in-Triangles : goal.returns-in-Triangles
returns-in-Triangles c = λ volumes lengths. corners_triangles _ _ _ _ _ volumes _ lengths _ _ c.in-Triangles.is (c.triangle_corners.ensures volumes)

pub returns-in-Straps : goal.returns-in-Straps
returns-in-Straps c = λ volumes lengths. corners_straps _ _ _ _ _ volumes _ lengths _ _ c.in-Straps.is (c.strap_corners.ensures lengths)

pub returns-in-Nothing : goal.returns-in-Nothing
returns-in-Nothing c = λ volumes lengths. corners_nothing _ _ _ _ _ volumes _ lengths _ _ c.in-Nothing.is refl
