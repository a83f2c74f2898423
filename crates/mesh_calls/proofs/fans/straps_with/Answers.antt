-- `mesh_calls::fans::straps_with` meets its contract: the invariant is the count of the rows that were passed. Assumes nothing.
use Prim.Native.Nat.{ℕ, ◌≤◌, ◌-◌}
use native.Mathlib.Omega.{arith}
use mathlib.Core.Path.{◌≡◌}
use mathlib.Core.List.{List}
use lib.ListN.{length}
use lib.Ieee.{Float}
use Rattle.model.specs.Elements.{straps_from}
use Rattle.mesh.specs.At.{edges_at}
use Rattle.elements.specs.Table.{holding}
use Rattle.mesh_calls.proofs.Fanned.{no_edges, strap_counts, count_ends}
use borrow.Author.Rules.{rules}
use Rattle.mesh_calls.proofs.fans.straps_with.Goals as goal

pub loop-i-init : goal.loop-i-init
loop-i-init c = (λ lengths. no_edges _ _ lengths, omega arith, omega arith)

pub loop-i-preserved : goal.loop-i-preserved
loop-i-preserved c = (λ lengths. strap_counts _ _ _ _ _ lengths (c.loop-i.invariant.0 lengths) c.strap_holds-held.ensures.0, omega (arith, c.strap_holds-held.ensures.1), omega arith)

pub returns : goal.returns
returns c = λ lengths. count_ends (λ (j : ℕ). length (holding c.args.v (straps_from 0 (edges_at j c.args.ends.now lengths)))) _ _ _ (c.loop-i.invariant.0 lengths) c.loop-i.invariant.2 c.loop-i-test.false
