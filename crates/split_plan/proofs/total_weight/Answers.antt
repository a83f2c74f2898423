-- `split_plan::total_weight` meets its contract. The invariant: total is the sum of the first g weights, for every opening that the tables hold. Assumes nothing.
use mathlib.Core.Path.{◌≡◌, ◌∙◌, ap}
use native.Mathlib.Omega.{arith}
use borrow.Author.Rules.{rules}
use lib.Ieee.{of_bits}
use Rattle.model.specs.Split.{weight_of}
use Rattle.split_plan.proofs.Weights.{total_to, total_none, total_more, total_all}
use Rattle.split_plan.proofs.total_weight.Goals as goal

pub loop-g-init : goal.loop-g-init
unfolding of_bits
loop-g-init c = (search rules, λ O G W. total_none (weight_of O.fan))

pub loop-g-preserved : goal.loop-g-preserved
loop-g-preserved c = (search rules, λ O G W. total_more (weight_of O.fan) _ _ _ (c.loop-g.invariant.1 O G W) (c.weight_of-w.ensures.is O G W))

pub returns : goal.returns
returns c = let A = c.args in
    let L = c.loop-g in
    let e : L.g ≡ A.count = omega arith in
    record { is = λ O G W q. L.invariant.1 O G W ∙ ap (total_to (weight_of O.fan)) e ∙ total_all O A.count q }
