-- `mesh_calls::checks::whole_places` meets its contract. The invariant: every place that was passed is whole. Assumes nothing.
use Prim.Native.Nat.{ℕ, ◌-◌, ◌≤◌, ◌<◌}
use native.Mathlib.Omega.{arith}
use mathlib.Core.Path.{◌≡◌}
use mathlib.Core.Bool.{true}
use borrow.Author.Count.{below_more}
use Rattle.exact.specs.Exact.{whole_point_of}
use Rattle.split_plan.specs.Opened.{place_in}
use Rattle.mesh_calls.proofs.Editions.{whole_stops, whole_goes, whole_ends}
use borrow.Author.Rules.{rules}
use mathlib.Core.Path.{ap}
use mathlib.Core.Bool.{not}
use Rattle.mesh_calls.proofs.checks.whole_places.Given as goal

-- `mesh_calls::checks::whole_places` meets its contract. The invariant: every place that was passed is whole. Assumes nothing.
abbrev pub invariant-loop-i : goal.invariant-loop-i
invariant-loop-i l = (l.i ≤ l.n) × ((k : ℕ) → k < l.i → whole_point_of (place_in l.points k) ≡ true)

abbrev pub decreases-loop-i : goal.decreases-loop-i
decreases-loop-i l = l.n - l.i
