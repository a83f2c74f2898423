-- `crossmarks::note_sides` meets its contract. Assumes nothing.
use Rattle.crossmarks.proofs.NotingLaws.{room_less, room_between, few_of_pair, sides_noted}
use native.Mathlib.Omega.{arith}
use borrow.Author.Rules.{rules}
use Rattle.crossmarks.proofs.note_sides.Goals as goal

-- `crossmarks::note_sides` meets its contract. Assumes nothing.
pub note_across-first-requires : goal.note_across-first-requires
note_across-first-requires c = let P = c.requires in (room_less _ _ _ _ _ P.0 (omega arith), P.2, P.3)

pub note_across-second-requires : goal.note_across-second-requires
note_across-second-requires c =
    let P = c.requires in
    (room_less _ _ _ _ _ P.1 (let f = few_of_pair _ _ _ _ _ _ _ _ c.note_across-first.ensures in omega (arith, f)), P.2, P.4)

pub note_across-requires : goal.note_across-requires
note_across-requires c =
    let P = c.requires in (
      room_between _ _ _ _ _ _ P.0 P.1
          (let f = few_of_pair _ _ _ _ _ _ _ _ c.note_across-first.ensures in
          let g = few_of_pair _ _ _ _ _ _ _ _ c.note_across-second.ensures in
          omega (arith, f, g)),
      P.3,
      P.4,
    )

pub returns : goal.returns
returns c =
    let X = c.note_across-first in
    let Y = c.note_across-second in
    let Z = c.note_across in
    sides_noted _ _ _ _ _ _ _ _ _ _ _ _ _ X.auto.log Y.auto.log X.ensures Y.ensures Z.ensures
