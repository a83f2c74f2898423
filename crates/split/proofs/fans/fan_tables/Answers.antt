-- `split::fans::fan_tables` meets its contract: the triangles that hold v by the table of their links, or the straps by that of the edges, or none. The laws are in proofs/FanLaws.antt and proofs/LinkLaws.antt. Assumes nothing.
use native.Mathlib.Omega.{arith}
use mathlib.Core.Path.{refl, ap}
use borrow.Author.Rules.{rules}
use Rattle.elements.specs.Table.{kind_is}
use Rattle.links.proofs.Parts.{edges_read}
use Rattle.split.proofs.Fitted.{fan_told}
use Rattle.split.proofs.FanLaws.{held_triangles, held_straps, held_nothing}
use Rattle.split.proofs.LinkLaws.{fan_walk}
use Rattle.split.proofs.fans.fan_tables.Goals as goal

pub fan_linked-requires : goal.fan_linked-requires
fan_linked-requires c = fan_walk c.requires.0 c.requires.1.triangles c.requires.2 (ap kind_is c.in-Triangles.is)

pub straps_linked-requires : goal.straps_linked-requires
straps_linked-requires c = (edges_read c.requires.1, c.requires.0.lengths, c.requires.2)

pub shape_of-numbers-in-Triangles : goal.shape_of-numbers-in-Triangles
shape_of-numbers-in-Triangles c = c.fan_linked.auto.numbers

pub shape_of-verts-in-Triangles : goal.shape_of-verts-in-Triangles
shape_of-verts-in-Triangles c = c.fan_linked.auto.verts

pub shape_of-measures-in-Triangles : goal.shape_of-measures-in-Triangles
shape_of-measures-in-Triangles c = c.fan_linked.auto.measures

pub returns-in-Triangles : goal.returns-in-Triangles
returns-in-Triangles c = let A = c.args in let P = c.requires.0 in
    fan_told (kind_is A.kind) _ _ _ _ _ _ _ _ _ _ _ c.requires.0.few.0 c.requires.0.few.1 (held_triangles A.kind _ _ _ _ _ _ _ c.in-Triangles.is c.fan_linked.ensures)

pub shape_of-numbers-in-Straps : goal.shape_of-numbers-in-Straps
shape_of-numbers-in-Straps c = c.straps_linked.auto.numbers

pub shape_of-verts-in-Straps : goal.shape_of-verts-in-Straps
shape_of-verts-in-Straps c = c.straps_linked.auto.verts

pub shape_of-measures-in-Straps : goal.shape_of-measures-in-Straps
shape_of-measures-in-Straps c = c.straps_linked.auto.measures

pub returns-in-Straps : goal.returns-in-Straps
returns-in-Straps c = let A = c.args in let P = c.requires.0 in
    fan_told (kind_is A.kind) _ _ _ _ _ _ _ _ _ _ _ c.requires.0.few.0 c.requires.0.few.1 (held_straps A.kind _ _ _ _ _ _ _ c.in-Straps.is c.straps_linked.ensures)

pub returns-in-Nothing : goal.returns-in-Nothing
returns-in-Nothing c = let A = c.args in let P = c.requires.0 in
    fan_told (kind_is A.kind) _ _ _ _ _ _ _ _ _ _ _ c.requires.0.few.0 c.requires.0.few.1 (held_nothing A.kind _ _ _ _ _ _ _ c.in-Nothing.is refl)
