-- `straddling::rising::put_rising` meets its contract: the number is there, or it is new (proofs/PutLaws.antt). Assumes nothing.
use native.Mathlib.Omega.{arith}
use mathlib.Core.Logic.{⊎_elim}
use Rattle.lists.proofs.Risen.{rising_few}
use Rattle.straddling.proofs.PutLaws.{put_there, put_room, put_new}
use borrow.Author.Rules.{rules}
use Rattle.straddling.proofs.rising.put_rising.Goals as goal
use Rattle.straddling.proofs.rising.put_rising.Goals.{else-at-gt0, then-at-gt0+else-list-at}

pub returns-then-list-at : goal.returns-then-list-at
returns-then-list-at c = put_there c.args.i c.args.r c.args.list.now _ c.place_for-at.ensures c.if-at-gt0.true c.if-list-at.true

pub insert_at-requires : goal.insert_at-requires
insert_at-requires c = (
  c.place_for-at.ensures.within,
  put_room c.args.i c.args.r c.args.list.now _ c.place_for-at.ensures (elim c.if-at-gt0.branch [
    | then-at-gt0+else-list-at w ↦ λ h. w.if-list-at.false
    | else-at-gt0 w ↦ λ h q. absurd (omega (arith, w.if-at-gt0.false))
  ]) c.requires,
)

pub overflow_add-result : goal.overflow_add-result
overflow_add-result c = omega (
  arith,
  put_room c.args.i c.args.r c.args.list.now _ c.place_for-at.ensures (elim c.if-at-gt0.branch [
    | then-at-gt0+else-list-at w ↦ λ h. w.if-list-at.false
    | else-at-gt0 w ↦ λ h q. absurd (omega (arith, w.if-at-gt0.false))
  ]) c.requires,
  c.well_formed,
)

pub returns : goal.returns
returns c = put_new c.args.i c.args.r c.args.list.now _ c.place_for-at.ensures (elim c.if-at-gt0.branch [
  | then-at-gt0+else-list-at w ↦ λ h. w.if-list-at.false
  | else-at-gt0 w ↦ λ h q. absurd (omega (arith, w.if-at-gt0.false))
]) _ c.insert_at.ensures

-- `straddling::rising::put_rising` meets its contract: the number is there, or it is new (proofs/PutLaws.antt). Assumes nothing.
pub place_for-at-requires : goal.place_for-at-requires
place_for-at-requires c = omega (arith, c.requires.long, rising_few c.requires.rising)

pub offset_bounds-list-at : goal.offset_bounds-list-at
offset_bounds-list-at c = omega (arith, c.if-at-gt0.true, c.place_for-at.ensures.within, c.requires.long, rising_few c.requires.rising, c.well_formed)

pub bounds-list-at : goal.bounds-list-at
bounds-list-at c = omega (arith, c.if-at-gt0.true, c.place_for-at.ensures.within, c.requires.long, rising_few c.requires.rising)
