-- `split_plan::fan_best` meets its contract. The invariant: best is that of the parts so far, for every opening and mesh that the tables hold. Assumes nothing.
use mathlib.Core.Path.{◌≡◌}
use Prim.Native.Nat.{ℕ, ◌≤◌, ◌<◌}
use Rattle.model.specs.Split.{Opening, scored}
use Rattle.model.specs.Mesh.{Mesh}
use Rattle.lists.specs.Lists.{fold, tab}
use Rattle.split_plan.specs.Answers.{best_is}
use Rattle.split_plan.specs.Opened.{part_at, Ringed, RestsIn, CornersBelow}
use Rattle.split_plan.proofs.fan_best.Given as goal

-- `split_plan::fan_best` meets its contract. The invariant: best is that of the parts so far, for every opening and mesh that the tables hold. Assumes nothing.
abbrev pub invariant-loop-i : goal.invariant-loop-i
invariant-loop-i l = (l.i ≤ l.n) × ((O : Opening) (M : Mesh) (p : ℕ) → Ringed l.k O l.n l.verts l.groups → RestsIn M p l.points → l.v < p → CornersBelow p l.n l.k l.verts → best_is l.best ≡ fold (scored M l.v l.dir) (best_is l.initial.best) (tab l.i (part_at O)))
