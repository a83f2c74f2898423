-- `straddling::held::any_triangle` meets its contract: no triangle before the next that holds x holds both (`Seeking` of proofs/HeldLaws.antt). Assumes nothing.
use Rattle.links.proofs.Walked.{still_left}
use Rattle.straddling.proofs.HeldLaws.{Seeking, seeking_start, seeking_within, seeking_holds, seeking_found, seeking_more, seeking_less, seeking_done, triangle_link, triangle_rest, triangle_only}
use Rattle.straddling.specs.Tests.{triangle_holds}
use Rattle.columns.specs.Block.{cell}
use mathlib.Core.Path.{sym, ◌∙◌}
use native.Mathlib.Omega.{arith}
use Prim.Native.Nat.{◌/◌}
use lib.ListN.{length}
use Rattle.straddling.proofs.held.any_triangle.Goals as goal

pub loop-at-init : goal.loop-at-init
loop-at-init c = seeking_start _ _ _ _ _ _ (c.first_at-at.ensures.is _ _ _ _ _ c.requires.linked c.requires.here)

pub overflow_sub-i : goal.overflow_sub-i
overflow_sub-i c = c.loop-at-test.true

pub row_holds-requires : goal.row_holds-requires
row_holds-requires c = let w = seeking_within _ _ _ _ _ _ c.loop-at.invariant c.loop-at-test.true in record { here = omega (arith, w, c.requires.rows); columns = omega arith }

pub returns-then-row_holds : goal.returns-then-row_holds
returns-then-row_holds c = let A = c.args in seeking_found _ _ _ _ _ _ c.loop-at.invariant c.loop-at-test.true (triangle_rest A.x A.y A.corners.now _ (seeking_holds _ _ _ _ _ _ c.loop-at.invariant c.loop-at-test.true) _ c.row_holds.ensures ∙ c.if-row_holds.true)

pub next_at-at-requires : goal.next_at-at-requires
next_at-at-requires c = triangle_link c.requires _ (seeking_within _ _ _ _ _ _ c.loop-at.invariant c.loop-at-test.true) (seeking_holds _ _ _ _ _ _ c.loop-at.invariant c.loop-at-test.true)

pub loop-at-smaller : goal.loop-at-smaller
loop-at-smaller c = seeking_less _ _ _ _ _ _ c.loop-at.invariant c.loop-at-test.true _ (c.next_at-at.ensures.is _ c.requires.linked)

pub loop-at-preserved : goal.loop-at-preserved
loop-at-preserved c = let A = c.args in seeking_more _ _ _ _ _ _ c.loop-at.invariant (triangle_only A.x A.y A.corners.now) c.loop-at-test.true _ (c.next_at-at.ensures.is _ c.requires.linked) (triangle_rest A.x A.y A.corners.now _ (seeking_holds _ _ _ _ _ _ c.loop-at.invariant c.loop-at-test.true) _ c.row_holds.ensures ∙ c.if-row_holds.false)

pub returns : goal.returns
returns c = let A = c.args in seeking_done _ _ _ _ _ _ c.loop-at.invariant (triangle_only A.x A.y A.corners.now) (omega arith)
