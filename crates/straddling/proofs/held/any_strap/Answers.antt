-- `straddling::held::any_strap` meets its contract: no edge before the next that holds x holds both (`Seeking` of proofs/HeldLaws.antt). Assumes nothing.
use Rattle.links.proofs.Walked.{still_left}
use Rattle.straddling.proofs.HeldLaws.{Seeking, seeking_start, seeking_within, seeking_holds, seeking_found, seeking_more, seeking_less, seeking_done, edge_link, strap_only}
use Rattle.straddling.specs.Tests.{strap_holds_of}
use Rattle.columns.specs.Block.{cell}
use mathlib.Core.Path.{sym, ◌∙◌}
use native.Mathlib.Omega.{arith}
use Prim.Native.Nat.{◌/◌}
use lib.ListN.{length}
use Rattle.straddling.proofs.held.any_strap.Goals as goal

pub loop-at-init : goal.loop-at-init
loop-at-init c = seeking_start _ _ _ _ _ _ (c.first_at-at.ensures.is _ _ _ _ _ c.requires.linked.are c.requires.here)

pub overflow_sub-i : goal.overflow_sub-i
overflow_sub-i c = c.loop-at-test.true

pub strap_holds-requires : goal.strap_holds-requires
strap_holds-requires c = let w = seeking_within _ _ _ _ _ _ c.loop-at.invariant c.loop-at-test.true in omega (arith, w, c.requires.linked.rows)

pub returns-then-strap_holds : goal.returns-then-strap_holds
returns-then-strap_holds c = seeking_found _ _ _ _ _ _ c.loop-at.invariant c.loop-at-test.true (sym c.strap_holds.ensures ∙ c.if-strap_holds.true)

pub next_at-at-requires : goal.next_at-at-requires
next_at-at-requires c = edge_link c.requires.linked _ (seeking_within _ _ _ _ _ _ c.loop-at.invariant c.loop-at-test.true) (seeking_holds _ _ _ _ _ _ c.loop-at.invariant c.loop-at-test.true)

pub loop-at-smaller : goal.loop-at-smaller
loop-at-smaller c = seeking_less _ _ _ _ _ _ c.loop-at.invariant c.loop-at-test.true _ (c.next_at-at.ensures.is _ c.requires.linked.are)

pub loop-at-preserved : goal.loop-at-preserved
loop-at-preserved c = let A = c.args in seeking_more _ _ _ _ _ _ c.loop-at.invariant (strap_only A.x A.y A.ends.now) c.loop-at-test.true _ (c.next_at-at.ensures.is _ c.requires.linked.are) (sym c.strap_holds.ensures ∙ c.if-strap_holds.false)

pub returns : goal.returns
returns c = let A = c.args in seeking_done _ _ _ _ _ _ c.loop-at.invariant (strap_only A.x A.y A.ends.now) (omega arith)
