-- `crossmarks::note_straps` meets its contract. The invariant: the crossings so far are noted. Assumes nothing.
use Rattle.crossmarks.specs.Noting.{Noted, strap_marks}
use Rattle.crossmarks.proofs.NotingLaws.{straps_none, straps_turn, straps_done, strap_noted, strap_passed, few_of_pair, room_of_strap}
use Rattle.marks.specs.Marking.{blade_by}
use mathlib.Core.Path.{◌≡◌, refl}
use mathlib.Core.Logic.{⊎_elim}
use Prim.Native.Nat.{◌+◌, ◌-◌, ◌≤◌}
use native.Mathlib.Omega.{arith}
use lib.ListN.{length}
use Rattle.crossmarks.proofs.note_straps.Goals as goal
use Rattle.crossmarks.proofs.note_straps.Goals.{else-ends-size-eq1, then-ends-size-eq1}

pub loop-i-init : goal.loop-i-init
loop-i-init c = (omega arith, refl, straps_none _ _ _ _ _, omega arith)

pub note_across-m-requires : goal.note_across-m-requires
note_across-m-requires c = room_of_strap _ _ _ _ _ c.loop-i.i _ c.requires c.loop-i-test.true c.loop-i.invariant.3

pub loop-i-preserved : goal.loop-i-preserved
loop-i-preserved c =
    let L = c.loop-i in
    elim c.if-ends-size-eq1.branch [
      | then-ends-size-eq1 w ↦ let T = straps_turn _ _ _ _ L.i _ _ _ _ _ _ _ L.invariant.1 w.note_across-m.auto.log L.invariant.2 L.invariant.3 (strap_noted _ _ _ L.i _ _ _ _ w.if-ends-size-eq1.true w.note_across-m.ensures) (few_of_pair _ _ _ _ _ _ _ _ w.note_across-m.ensures) w.log-is w.m-is in (omega arith, T.0, T.1, T.2)
      | else-ends-size-eq1 w ↦ let T = straps_turn _ _ _ _ L.i _ _ _ _ _ _ _ L.invariant.1 refl L.invariant.2 L.invariant.3 (strap_passed _ _ _ L.i _ _ w.if-ends-size-eq1.false) (omega arith) w.log-is w.m-is in (omega arith, T.0, T.1, T.2)
    ]

pub shape_of-log : goal.shape_of-log
shape_of-log c = c.loop-i.invariant.1

pub returns : goal.returns
returns c = straps_done _ _ _ _ _ _ _ _ _ (omega arith) c.loop-i.invariant.2
