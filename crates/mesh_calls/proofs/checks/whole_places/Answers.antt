-- `mesh_calls::checks::whole_places` meets its contract. The invariant: every place that was passed is whole. Assumes nothing.
use Prim.Native.Nat.{ℕ, ◌-◌, ◌≤◌, ◌<◌}
use native.Mathlib.Omega.{arith}
use mathlib.Core.Path.{◌≡◌}
use mathlib.Core.Bool.{true}
use borrow.Author.Count.{below_more}
use Rattle.exact.specs.Exact.{whole_point_of}
use Rattle.split_plan.specs.Opened.{place_in}
use Rattle.mesh_calls.proofs.Editions.{whole_stops, whole_goes, whole_ends}
use borrow.Author.Rules.{rules}
use mathlib.Core.Path.{ap}
use mathlib.Core.Bool.{not}
use Rattle.mesh_calls.proofs.checks.whole_places.Goals as goal

pub loop-i-init : goal.loop-i-init
loop-i-init c = (omega arith, λ k h. absurd (omega arith))

pub returns-then-not-whole_point : goal.returns-then-not-whole_point
returns-then-not-whole_point c = whole_stops _ _ c.loop-i.i _ _ c.loop-i-test.true c.place.ensures c.whole_point.ensures (ap not c.if-not-whole_point.true)

pub loop-i-preserved : goal.loop-i-preserved
loop-i-preserved c = let L = c.loop-i in (omega arith, below_more _ _ L.invariant.1 (whole_goes c.args.points.now L.i _ _ c.place.ensures c.whole_point.ensures (ap not c.if-not-whole_point.false)))

pub returns : goal.returns
returns c = whole_ends _ _ c.loop-i.i (omega arith) c.loop-i.invariant.1
