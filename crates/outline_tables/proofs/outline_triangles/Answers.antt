-- `outline::outline_triangles` meets its contract. The invariant: the faces of the first i triangles are added, and the corners stay linked. Assumes nothing.
use native.Mathlib.Omega.{arith}
use mathlib.Core.Path.{refl, ◌∙◌}
use lib.ListN.{length}
use Rattle.lists.proofs.Sifts.{sift_length}
use Rattle.outline.specs.Outline.{faces_of, single}
use Rattle.outline_tables.specs.Rows.{row3, rows3}
use Rattle.outline_tables.proofs.Adding.{faces_turn, faces_none, faces_end}
use Rattle.outline_tables.proofs.Linking.{none_long, new_room, new_linked}
use Rattle.outline_tables.proofs.outline_triangles.Goals as goal

pub link_corners-requires : goal.link_corners-requires
link_corners-requires c =
    let A = c.args in
    let M = c.at_most-m in
    new_room (length A.a.now) (length A.b.now) (length A.c.now) M.result c.requires M.ensures.0 M.ensures.1

pub loop-i-init : goal.loop-i-init
loop-i-init c =
    let A = c.args in
    let M = c.at_most-m in
    let K = c.link_corners in (
      omega arith,
      omega arith,
      refl,
      faces_none A.a.now A.b.now A.c.now A.outline.now,
      new_linked A.a.now A.b.now A.c.now M.result _ _ c.requires M.ensures.0 M.ensures.1 c.link_corners.auto.heads c.link_corners.auto.links K.ensures,
      c.link_corners.auto.sizes ∙ none_long 1024,
    )

pub add_faces-n-requires : goal.add_faces-n-requires
add_faces-n-requires c = let L = c.loop-i in (L.invariant.4, L.invariant.5, omega arith, omega (arith, L.invariant.1, L.invariant.4.even.few))

pub loop-i-preserved : goal.loop-i-preserved
loop-i-preserved c =
    let L = c.loop-i in
    let A = c.args in
    let s = c.add_faces-n in
    let a = A.a.now in
    let b = A.b.now in
    let d = A.c.now in (
      omega arith,
      omega (arith, s.ensures.count, sift_length (single (rows3 a b d)) (faces_of (row3 a b d L.i)), L.invariant.1),
      s.auto.outline ∙ L.invariant.2,
      faces_turn a b d L.i A.outline.now L.outline _ L.n _ L.invariant.2 L.invariant.3 s.ensures,
      L.invariant.4,
      L.invariant.5,
    )

pub shape_of-outline : goal.shape_of-outline
shape_of-outline c = c.loop-i.invariant.2

pub returns : goal.returns
returns c =
    let L = c.loop-i in
    let A = c.args in
    faces_end A.a.now A.b.now A.c.now A.outline.now L.outline L.i L.n (omega arith) L.invariant.2 L.invariant.3
