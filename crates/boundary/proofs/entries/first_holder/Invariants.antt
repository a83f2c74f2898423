-- `boundary::entries::first_holder` meets its contract. The invariant: no part so far holds both. Assumes nothing.
use Rattle.boundary.proofs.BoundaryLaws.{holder_here, holder_none}
use Rattle.boundary.specs.Following.{row_holds}
use Rattle.split_plan.proofs.Rings.{row_fits}
use borrow.Author.Count.{below_more}
use mathlib.Core.Path.{◌≡◌, sym, ◌∙◌}
use mathlib.Core.Bool.{false}
use native.Mathlib.Omega.{arith}
use Prim.Native.Nat.{ℕ, ◌-◌, ◌≤◌, ◌<◌}
use Rattle.boundary.proofs.entries.first_holder.Given as goal

-- `boundary::entries::first_holder` meets its contract. The invariant: no part so far holds both. Assumes nothing.
abbrev pub invariant-loop-i : goal.invariant-loop-i
invariant-loop-i l = (l.i ≤ l.n) × ((j : ℕ) → j < l.i → row_holds l.x l.y l.k l.verts j ≡ false)

abbrev pub decreases-loop-i : goal.decreases-loop-i
decreases-loop-i l = l.n - l.i
