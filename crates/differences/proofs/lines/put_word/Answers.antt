-- `differences::lines::put_word` meets its contract: the word by the list. Assumes nothing.
use Rattle.differences.proofs.Writing.{as_word}
use borrow.Author.Rules.{rules}
use Rattle.differences.proofs.lines.put_word.Goals as goal

pub returns-in-Particles : goal.returns-in-Particles
returns-in-Particles c = as_word _ _ c.in-Particles.is c.put_text.ensures

pub returns-in-Triangles : goal.returns-in-Triangles
returns-in-Triangles c = as_word _ _ c.in-Triangles.is c.put_text-in-Triangles.ensures

pub returns-in-Edges : goal.returns-in-Edges
returns-in-Edges c = as_word _ _ c.in-Edges.is c.put_text-in-Edges.ensures

pub returns-in-Boundary : goal.returns-in-Boundary
returns-in-Boundary c = as_word _ _ c.in-Boundary.is c.put_text-in-Boundary.ensures
