-- `split_plan::meets` meets its contract. The invariant: no row so far holds x and has a group that holds y. Assumes nothing.
use mathlib.Core.Bool.{true}
use mathlib.Core.Path.{◌≡◌}
use Prim.Native.Nat.{ℕ, ◌≤◌, ◌<◌}
use lib.ListN.{get_or}
use Rattle.model.specs.Split.{Opening, ring}
use Rattle.lists.specs.Lists.{stands}
use Rattle.split_plan.specs.Opened.{Ringed}
use Rattle.split_plan.proofs.Rings.{row_of}
use Rattle.split_plan.proofs.meets.Given as goal

-- `split_plan::meets` meets its contract. The invariant: no row so far holds x and has a group that holds y. Assumes nothing.
abbrev pub invariant-loop-i : goal.invariant-loop-i
invariant-loop-i l = (l.i ≤ l.n) × ((O : Opening) → Ringed l.k O l.n l.verts l.groups → (j : ℕ) → j < l.i → stands l.x (row_of l.k l.verts j) ≡ true → stands (get_or l.groups j 0) (ring O l.y) ≡ true → ⊥)
