-- `split_plan::best_in` meets its contract. The invariant: from the best so far the rest of the row leads to the same best as the whole row. Assumes nothing.
use mathlib.Core.Path.{◌≡◌}
use Prim.Native.Nat.{ℕ, ◌≤◌, ◌<◌}
use lib.ListN.{length, get_or, drop}
use Rattle.model.specs.Elements.{besides}
use Rattle.model.specs.Mesh.{Mesh}
use Rattle.lists.specs.Lists.{fold}
use Rattle.split_plan.specs.Answers.{best_is}
use Rattle.split_plan.specs.Opened.{RestsIn}
use Rattle.split_plan.proofs.Towards.{scoring}
use Rattle.split_plan.proofs.best_in.Given as goal

-- `split_plan::best_in` meets its contract. The invariant: from the best so far the rest of the row leads to the same best as the whole row. Assumes nothing.
abbrev pub invariant-loop-i : goal.invariant-loop-i
invariant-loop-i l = (l.i ≤ length l.row) × ((M : Mesh) (p : ℕ) → RestsIn M p l.points → l.v < p → ((j : ℕ) → j < length l.row → get_or l.row j 0 < p) → fold (scoring M l.v l.dir l.g) (best_is l.best) (besides l.v (drop l.i l.row)) ≡ fold (scoring M l.v l.dir l.g) (best_is l.initial.best) (besides l.v l.row))
