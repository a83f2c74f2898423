-- `split_plan::weight_of` meets its contract. The invariant: w is the weight of group g in the parts so far, for every opening that the tables hold. Assumes nothing.
use mathlib.Core.Path.{◌≡◌, ◌∙◌, ap}
use Prim.Native.Nat.{◌<◌}
use native.Mathlib.Omega.{arith}
use borrow.Author.Rules.{rules}
use lib.Ieee.{of_bits}
use Rattle.split_plan.proofs.Weights.{weight_to, weight_none, weight_in, weight_out, weight_all}
use Rattle.split_plan.proofs.weight_of.Goals as goal
use Rattle.split_plan.proofs.weight_of.Goals.{else-groups-i, then-groups-i}

pub loop-i-init : goal.loop-i-init
unfolding of_bits
loop-i-init c = (search rules, λ O G W. weight_none O c.args.g)

pub loop-i-preserved : goal.loop-i-preserved
loop-i-preserved c = let A = c.args in
    let L = c.loop-i in
    let l : L.i < A.n = search rules in (
      search rules,
      λ O G W.
          elim c.if-groups-i.branch [
            | then-groups-i w ↦ w.w-is ∙ weight_in O G W A.g L.i l L.w (L.invariant.1 O G W) w.if-groups-i.true
            | else-groups-i w ↦ w.w-is ∙ weight_out O G W A.g L.i l L.w (L.invariant.1 O G W) w.if-groups-i.false
          ],
    )

pub returns : goal.returns
returns c = let A = c.args in
    let L = c.loop-i in
    let e : L.i ≡ A.n = omega arith in
    record { is = λ O G W. L.invariant.1 O G W ∙ ap (weight_to O A.g) e ∙ weight_all O G W A.g }
