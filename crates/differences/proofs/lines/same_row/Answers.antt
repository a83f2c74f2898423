-- `differences::lines::same_row` meets its contract: field by field. Assumes nothing.
use Rattle.differences.proofs.Writing.{first_differs, second_differs, three_tell, three_yes, two_tell}
use borrow.Author.Rules.{rules}
use Rattle.differences.proofs.lines.same_row.Goals as goal

-- `differences::lines::same_row` meets its contract: field by field. Assumes nothing.
pub returns-then-x-u : goal.returns-then-x-u
returns-then-x-u c = let a = c.args in first_differs a.part a.x a.y a.z a.u a.v a.w c.if-x-u.true

pub returns-then-y-v : goal.returns-then-y-v
returns-then-y-v c = let a = c.args in second_differs a.part a.x a.y a.z a.u a.v a.w c.if-x-u.false c.if-y-v.true

pub returns-in-Particles : goal.returns-in-Particles
returns-in-Particles c = let a = c.args in three_tell a.part _ a.x a.y a.z a.u a.v a.w c.in-Particles.is three_yes.0 c.if-x-u.false c.if-y-v.false

pub returns-in-Triangles : goal.returns-in-Triangles
returns-in-Triangles c = let a = c.args in three_tell a.part _ a.x a.y a.z a.u a.v a.w c.in-Triangles.is three_yes.1 c.if-x-u.false c.if-y-v.false

pub returns-in-Edges : goal.returns-in-Edges
returns-in-Edges c = let a = c.args in three_tell a.part _ a.x a.y a.z a.u a.v a.w c.in-Edges.is three_yes.2 c.if-x-u.false c.if-y-v.false

pub returns-in-Boundary : goal.returns-in-Boundary
returns-in-Boundary c = let a = c.args in two_tell a.part a.x a.y a.z a.u a.v a.w c.in-Boundary.is c.if-x-u.false c.if-y-v.false
