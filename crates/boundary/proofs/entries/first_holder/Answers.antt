-- `boundary::entries::first_holder` meets its contract. The invariant: no part so far holds both. Assumes nothing.
use Rattle.boundary.proofs.BoundaryLaws.{holder_here, holder_none}
use Rattle.boundary.specs.Following.{row_holds}
use Rattle.split_plan.proofs.Rings.{row_fits}
use borrow.Author.Count.{below_more}
use mathlib.Core.Path.{◌≡◌, sym, ◌∙◌}
use mathlib.Core.Bool.{false}
use native.Mathlib.Omega.{arith}
use Prim.Native.Nat.{ℕ, ◌-◌, ◌≤◌, ◌<◌}
use Rattle.boundary.proofs.entries.first_holder.Goals as goal

pub loop-i-init : goal.loop-i-init
loop-i-init c = (omega arith, λ j l. absurd (omega arith))

pub part_holds-requires : goal.part_holds-requires
part_holds-requires c = row_fits c.requires c.loop-i.i c.loop-i-test.true

pub returns-then-part_holds : goal.returns-then-part_holds
returns-then-part_holds c = holder_here c.loop-i.invariant.1 c.loop-i-test.true (sym c.part_holds.ensures ∙ c.if-part_holds.true)

pub loop-i-preserved : goal.loop-i-preserved
loop-i-preserved c = let A = c.args in (omega arith, below_more (λ (j : ℕ). row_holds A.x A.y A.k A.verts.now j ≡ false) c.loop-i.i c.loop-i.invariant.1 (sym c.part_holds.ensures ∙ c.if-part_holds.false))

pub returns : goal.returns
returns c = holder_none c.loop-i.invariant.1 c.loop-i-test.false
