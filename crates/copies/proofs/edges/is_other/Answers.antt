-- `copies::edges::is_other` meets its contract: one test behind the other. Assumes nothing.
use Rattle.copies.proofs.RowLaws.{other_element, other_first, other_second}
use mathlib.Core.Path.{refl, sym, ◌∙◌}
use Rattle.mesh.specs.Workers.{edge_of}
use borrow.Author.Rules.{rules}
use Rattle.copies.proofs.edges.is_other.Goals as goal

pub returns-then-is_element : goal.returns-then-is_element
returns-then-is_element c = other_element c.args.v c.args.row.a c.args.row.b (sym (c.is_element.ensures.is (edge_of c.args.row) refl) ∙ c.if-is_element.true)

pub returns-then-row-v : goal.returns-then-row-v
returns-then-row-v c = other_first c.args.v c.args.row.a c.args.row.b (sym (c.is_element.ensures.is (edge_of c.args.row) refl) ∙ c.if-is_element.false) c.if-row-v.true

pub returns : goal.returns
returns c = other_second c.args.v c.args.row.a c.args.row.b (sym (c.is_element.ensures.is (edge_of c.args.row) refl) ∙ c.if-is_element.false) c.if-row-v.false
