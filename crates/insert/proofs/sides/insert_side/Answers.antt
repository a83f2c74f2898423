use Prim.Native.Nat.{◌+◌, ◌/◌}
use lib.ListN.{length, get_or}
use native.Mathlib.Omega.{arith}
use mathlib.Core.Logic.{⊎_elim}
use Rattle.insert.proofs.SideLaws.{both_not_first, both_not_second, entry_along, entry_against, entry_other}
use borrow.Author.Rules.{rules}
use Rattle.insert.proofs.sides.insert_side.Goals as goal
use Rattle.insert.proofs.sides.insert_side.Goals.{else-x-a, then-x-a+else-y-b}

-- src/sides.rt:54:13
pub returns-then-y-b : goal.returns-then-y-b
returns-then-y-b c = entry_along _ _ _ _ _ _ _ _ _ _ c.if-x-a.true c.if-y-b.true c.grow_entry.ensures

-- src/sides.rt:59:13
pub returns-then-y-a : goal.returns-then-y-a
returns-then-y-a c = let A = c.args in
    let y = get_or A.outline.now (length A.outline.now / 2 + A.i) 0 in
    entry_against _ _ _ _ _ _ _ _ _ _ (elim c.if-x-a.branch [
      | then-x-a+else-y-b w ↦ both_not_second _ _ _ _ w.if-x-a.true w.if-y-b.false
      | else-x-a w ↦ both_not_first _ y _ A.b w.if-x-a.false
    ]) c.if-x-b.true c.if-y-a.true c.grow_entry-then-y-a.ensures

-- src/sides.rt:36:1
pub returns-else-y-a : goal.returns-else-y-a
returns-else-y-a c = let A = c.args in
    let y = get_or A.outline.now (length A.outline.now / 2 + A.i) 0 in
    entry_other _ _ _ _ _ _ _ _ c.requires.1 c.requires.0.rows (elim c.if-x-a.branch [
      | then-x-a+else-y-b w ↦ both_not_second _ _ _ _ w.if-x-a.true w.if-y-b.false
      | else-x-a w ↦ both_not_first _ y _ A.b w.if-x-a.false
    ]) (both_not_second _ _ _ _ c.if-x-b.true c.if-y-a.false)

-- src/sides.rt:36:1
pub returns-else-x-b : goal.returns-else-x-b
returns-else-x-b c = let A = c.args in
    let y = get_or A.outline.now (length A.outline.now / 2 + A.i) 0 in
    entry_other _ _ _ _ _ _ _ _ c.requires.1 c.requires.0.rows (elim c.if-x-a.branch [
      | then-x-a+else-y-b w ↦ both_not_second _ _ _ _ w.if-x-a.true w.if-y-b.false
      | else-x-a w ↦ both_not_first _ y _ A.b w.if-x-a.false
    ]) (both_not_first _ y _ A.a c.if-x-b.false)
