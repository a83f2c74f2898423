-- `crossmarks::note_triangles` meets its contract. The invariant: the crossings so far are noted. Assumes nothing.
use Rattle.crossmarks.specs.Noting.{Noted, triangle_marks}
use Rattle.crossmarks.proofs.NotingLaws.{triangles_none, triangles_more, triangles_done, few_of_row, rooms_of_row, offsets_of_row}
use Rattle.marks.specs.Marking.{blade_by}
use mathlib.Core.Path.{◌≡◌, refl, ◌∙◌}
use Prim.Native.Nat.{◌+◌, ◌*◌, ◌-◌, ◌≤◌}
use native.Mathlib.Omega.{arith}
use lib.ListN.{length}
use Rattle.crossmarks.proofs.note_triangles.Goals as goal

pub loop-i-init : goal.loop-i-init
loop-i-init c = (omega arith, refl, triangles_none _ _ _ _ _, omega arith)

pub note_sides-m-requires : goal.note_sides-m-requires
note_sides-m-requires c =
    let P = c.requires in
    let i = c.loop-i.i in
    let h = c.loop-i-test.true in
    let R = rooms_of_row _ _ _ _ _ i _ P h c.loop-i.invariant.3 in
    let O = offsets_of_row _ _ _ _ _ i 0 P h in
    (R.0, R.1, O.0, O.1, O.2)

pub loop-i-preserved : goal.loop-i-preserved
loop-i-preserved c =
    let L = c.loop-i in
    let S = c.note_sides-m in (
      omega arith,
      S.auto.log ∙ L.invariant.1,
      triangles_more _ _ _ _ L.i _ _ _ _ _ L.invariant.1 L.invariant.2 S.ensures,
      (let f = few_of_row _ _ _ _ _ _ _ _ _ S.ensures in let g = L.invariant.3 in omega (arith, f, g)),
    )

pub shape_of-log : goal.shape_of-log
shape_of-log c = c.loop-i.invariant.1

pub returns : goal.returns
returns c = triangles_done _ _ _ _ _ _ _ _ _ (omega arith) c.loop-i.invariant.2
