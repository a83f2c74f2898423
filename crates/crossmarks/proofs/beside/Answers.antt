-- `crossmarks::beside` meets its contract. Assumes nothing.
use Rattle.crossmarks.specs.Noting.{beside_by}
use Rattle.marks.specs.declared.Rule.{Rule}
use mathlib.Core.Path.{sym, ap}
use lib.Ieee.{of_bits}
use borrow.Author.Rules.{rules}
use Rattle.crossmarks.proofs.beside.Goals as goal

pub returns-in-Rounded : goal.returns-in-Rounded
unfolding of_bits
returns-in-Rounded c = let A = c.args in sym (ap (λ (r : Rule). beside_by r A.dx A.dy) c.in-Rounded.is)

pub returns-in-Signs : goal.returns-in-Signs
returns-in-Signs c = let A = c.args in sym (ap (λ (r : Rule). beside_by r A.dx A.dy) c.in-Signs.is)
