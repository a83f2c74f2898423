-- `elements::element_table` meets its contract: the table of the triangles, or of the straps, or none. The laws are in proofs/Filling.antt.
use mathlib.Core.Path.{refl}
use Rattle.elements.proofs.Filling.{table_triangles, table_straps, table_nothing}
use Rattle.elements.proofs.element_table.Goals as goal

pub returns-in-Triangles : goal.returns-in-Triangles
returns-in-Triangles c = table_triangles _ _ _ _ _ _ _ c.in-Triangles.is c.triangle_table.ensures

pub returns-in-Straps : goal.returns-in-Straps
returns-in-Straps c = table_straps _ _ _ _ _ _ _ c.in-Straps.is c.strap_table.ensures

pub returns-in-Nothing : goal.returns-in-Nothing
returns-in-Nothing c = table_nothing _ _ _ _ _ _ _ c.in-Nothing.is refl
