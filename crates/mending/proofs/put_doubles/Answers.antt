-- `mending::put_doubles` meets its contract: one mark more a turn. Assumes nothing.
use Prim.Native.Nat.{ℕ}
use native.Mathlib.Omega.{arith}
use mathlib.Core.Path.{ap}
use mathlib.Core.List.{List}
use lib.ListN.{take}
use lib.Seq.{take-length}
use Rattle.lists.specs.Lists.{each}
use Rattle.listing.proofs.Appending.{grow_start, grow_more, grow_done, appends_as}
use Rattle.mending.specs.Sheets.{drop_line}
use Rattle.mending.specs.Work.{double_by}
use Rattle.mending.proofs.Lines.{doubles_more, doubles_start}
use Rattle.mending.proofs.put_doubles.Goals as goal

pub loop-i-init : goal.loop-i-init
loop-i-init c = let a = c.args in grow_start (λ k. each (drop_line a.word.now) (double_by 0 (take k a.mask.now))) _ _ _ (doubles_start a.word.now)

pub loop-i-preserved : goal.loop-i-preserved
loop-i-preserved c =
    let a = c.args in
    grow_more c.loop-i.invariant c.loop-i-test.true c.put_double-at.ensures (doubles_more a.word.now a.mask.now c.loop-i.i c.loop-i-test.true) c.put_double-at.auto.out

pub shape_of-out : goal.shape_of-out
shape_of-out c = c.loop-i.invariant.long

pub returns : goal.returns
returns c =
    let a = c.args in
    appends_as (grow_done c.loop-i.invariant c.loop-i-test.false) (ap (λ (m : List ℕ). each (drop_line a.word.now) (double_by 0 m)) (take-length a.mask.now))
