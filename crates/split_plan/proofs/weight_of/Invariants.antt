-- `split_plan::weight_of` meets its contract. The invariant: w is the weight of group g in the parts so far, for every opening that the tables hold. Assumes nothing.
use mathlib.Core.Path.{◌≡◌}
use Prim.Native.Nat.{◌≤◌}
use Rattle.model.specs.Split.{Opening}
use Rattle.split_plan.specs.Answers.{Grouped}
use Rattle.split_plan.specs.Opened.{Weighted}
use Rattle.split_plan.proofs.Weights.{weight_to}
use Rattle.split_plan.proofs.weight_of.Given as goal

-- `split_plan::weight_of` meets its contract. The invariant: w is the weight of group g in the parts so far, for every opening that the tables hold. Assumes nothing.
abbrev pub invariant-loop-i : goal.invariant-loop-i
invariant-loop-i l = (l.i ≤ l.n) × ((O : Opening) → Grouped O l.n l.groups → Weighted O l.n l.measures → l.w ≡ weight_to O l.g l.i)
