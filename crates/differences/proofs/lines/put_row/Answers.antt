-- `differences::lines::put_row` meets its contract: the fields by the list. Assumes nothing.
use Rattle.differences.proofs.Writing.{two_fields, third_field, as_part, coords_of}
use borrow.Author.Rules.{rules}
use Rattle.differences.proofs.lines.put_row.Goals as goal

pub put_coord-first-requires : goal.put_coord-first-requires
put_coord-first-requires c = (coords_of _ _ _ c.in-Particles.is c.requires).0

pub put_coord-two-requires : goal.put_coord-two-requires
put_coord-two-requires c = (coords_of _ _ _ c.in-Particles.is c.requires).1

pub returns-in-Particles : goal.returns-in-Particles
returns-in-Particles c = as_part _ _ _ _ _ c.in-Particles.is (third_field _ _ _ (two_fields _ _ c.put_coord-first.ensures c.put_coord-two.ensures) c.put_plain.ensures)

pub returns-in-Triangles : goal.returns-in-Triangles
returns-in-Triangles c = as_part _ _ _ _ _ c.in-Triangles.is c.put_three.ensures

pub returns-in-Edges : goal.returns-in-Edges
returns-in-Edges c = as_part _ _ _ _ _ c.in-Edges.is c.put_three-in-Edges.ensures

pub returns-in-Boundary : goal.returns-in-Boundary
returns-in-Boundary c = as_part _ _ _ _ _ c.in-Boundary.is c.put_two.ensures
