-- `split_plan::total_weight` meets its contract. The invariant: total is the sum of the first g weights, for every opening that the tables hold. Assumes nothing.
use mathlib.Core.Path.{◌≡◌}
use Prim.Native.Nat.{◌≤◌}
use Rattle.model.specs.Split.{Opening, weight_of}
use Rattle.split_plan.specs.Answers.{Grouped}
use Rattle.split_plan.specs.Opened.{Weighted}
use Rattle.split_plan.proofs.Weights.{total_to}
use Rattle.split_plan.proofs.total_weight.Given as goal

-- `split_plan::total_weight` meets its contract. The invariant: total is the sum of the first g weights, for every opening that the tables hold. Assumes nothing.
abbrev pub invariant-loop-g : goal.invariant-loop-g
invariant-loop-g l = (l.g ≤ l.count) × ((O : Opening) → Grouped O l.n l.groups → Weighted O l.n l.measures → l.total ≡ total_to (weight_of O.fan) l.g)
