-- `mesh_calls::fans::triangles_with` meets its contract: the invariant is the count of the rows that were passed. Assumes nothing.
use Prim.Native.Nat.{ℕ, ◌≤◌, ◌-◌}
use native.Mathlib.Omega.{arith}
use mathlib.Core.Path.{◌≡◌}
use mathlib.Core.List.{List}
use lib.ListN.{length}
use lib.Ieee.{Float}
use Rattle.model.specs.Elements.{triangles_from}
use Rattle.mesh.specs.At.{triangles_at}
use Rattle.elements.specs.Table.{holding}
use Rattle.mesh_calls.proofs.Fanned.{no_triangles, triangle_counts, count_ends}
use borrow.Author.Rules.{rules}
use Rattle.mesh_calls.proofs.fans.triangles_with.Goals as goal

pub loop-i-init : goal.loop-i-init
loop-i-init c = (λ volumes. no_triangles _ _ volumes, omega arith, omega arith)

pub loop-i-preserved : goal.loop-i-preserved
loop-i-preserved c = (λ volumes. triangle_counts _ _ _ _ _ volumes (c.loop-i.invariant.0 volumes) c.triangle_holds-held.ensures.0, omega (arith, c.triangle_holds-held.ensures.1), omega arith)

pub returns : goal.returns
returns c = λ volumes. count_ends (λ (j : ℕ). length (holding c.args.v (triangles_from 0 (triangles_at j c.args.corners.now volumes)))) _ _ _ (c.loop-i.invariant.0 volumes) c.loop-i.invariant.2 c.loop-i-test.false
