-- `marks::particles::tested` meets its contract. Each rule has its own test. Assumes nothing.
use Rattle.model.specs.Cut.{hit_by}
use Rattle.marks.specs.Marking.{rule_is}
use Rattle.marks.specs.declared.Rule.{Rule}
use mathlib.Core.Path.{sym, ◌∙◌, ap}
use borrow.Author.Rules.{rules}
use Rattle.marks.proofs.particles.tested.Goals as goal

pub returns-in-Rounded : goal.returns-in-Rounded
returns-in-Rounded c = let A = c.args in
    c.blade_hit.ensures ∙ ap (λ (r : Rule). hit_by (rule_is r) A.b0 A.b1 A.p A.q) (sym c.in-Rounded.is)

pub returns-in-Signs : goal.returns-in-Signs
returns-in-Signs c = let A = c.args in
    c.hit_by_signs.ensures ∙ ap (λ (r : Rule). hit_by (rule_is r) A.b0 A.b1 A.p A.q) (sym c.in-Signs.is)
