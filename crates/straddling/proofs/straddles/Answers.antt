-- `straddling::straddles` meets its contract: one test behind the other, in the order of the definition. Assumes nothing.
use Rattle.straddling.proofs.StraddlerLaws.{told_element, told_first, told_second, told_joined, told_held, held_room}
use borrow.Author.Tests.{not-true, not-false}
use mathlib.Core.Path.{sym, subst}
use Prim.Native.Nat.{ℕ}
use Rattle.split_plan.specs.Opened.{RingRoom}
use lib.ListN.{length}
use borrow.Author.Rules.{rules}
use mathlib.Core.Path.{ap}
use mathlib.Core.Bool.{not}
use Rattle.straddling.proofs.straddles.Goals as goal

pub returns-then-is_element : goal.returns-then-is_element
returns-then-is_element c = told_element _ _ _ _ _ _ _ _ _ _ _ _ c.is_element.result c.is_element.ensures c.if-is_element.true

pub returns-then-is_copy : goal.returns-then-is_copy
returns-then-is_copy c = told_first _ _ _ _ _ _ _ _ _ _ _ _ c.is_element.result c.is_element.ensures c.if-is_element.false c.is_copy.result c.is_copy.ensures c.if-is_copy.true

pub returns-then-is_copy-2 : goal.returns-then-is_copy-2
returns-then-is_copy-2 c = told_second _ _ _ _ _ _ _ _ _ _ _ _ c.is_element.result c.is_element.ensures c.if-is_element.false c.is_copy.result c.is_copy.ensures c.if-is_copy.false c.is_copy-2.result c.is_copy-2.ensures c.if-is_copy-2.true

pub parted-requires : goal.parted-requires
parted-requires c = let A = c.args in subst (λ (k : ℕ). RingRoom A.n k (length A.verts.now) (length A.groups.now)) (sym c.corners_per-k.ensures) c.requires.0.ring

pub returns-then-not-parted : goal.returns-then-not-parted
returns-then-not-parted c = told_joined _ _ _ _ _ _ _ _ _ _ _ _ c.is_element.result c.is_element.ensures c.if-is_element.false c.is_copy.result c.is_copy.ensures c.if-is_copy.false c.is_copy-2.result c.is_copy-2.ensures c.if-is_copy-2.false c.corners_per-k.result c.corners_per-k.ensures c.parted.result c.parted.ensures (not-true _ (ap not c.if-not-parted.true))

pub held-requires : goal.held-requires
held-requires c = held_room _ _ _ _ _ _ _ _ _ _ _ c.requires.0 c.requires.1 c.requires.2 c.requires.3 c.requires.4

pub returns : goal.returns
returns c = told_held _ _ _ _ _ _ _ _ _ _ _ _ c.is_element.result c.is_element.ensures c.if-is_element.false c.is_copy.result c.is_copy.ensures c.if-is_copy.false c.is_copy-2.result c.is_copy-2.ensures c.if-is_copy-2.false c.corners_per-k.result c.corners_per-k.ensures c.parted.result c.parted.ensures (not-false _ (ap not c.if-not-parted.false)) c.held.result c.held.ensures
