-- `pieces::sides::join_strap` meets its contract. Assumes nothing.
use borrow.Author.Rules.{rules}
use native.Mathlib.Omega.{arith}
use mathlib.Core.Path.{◌≡◌, ◌∙◌}
use Prim.Native.Nat.{◌+◌, ◌*◌, ◌/◌, ◌<◌}
use lib.ListN.{length}
use Rattle.reach.proofs.Rowing.{row_end}
use Rattle.pieces.proofs.FacetChains.{room_for, sided_to, facet_strap}
use Rattle.pieces.proofs.sides.join_strap.Goals as goal

-- `pieces::sides::join_strap` meets its contract. Assumes nothing.
pub overflow_mul-t : goal.overflow_mul-t
overflow_mul-t c = let P = c.requires in omega (arith, row_end P.0.rows _ P.1)

pub offset_bounds-verts-t : goal.offset_bounds-verts-t
offset_bounds-verts-t c = let P = c.requires in omega (arith, row_end P.0.rows _ P.1)

pub bounds-verts-t : goal.bounds-verts-t
bounds-verts-t c = let P = c.requires in omega (arith, row_end P.0.rows _ P.1)

pub overflow_add-b : goal.overflow_add-b
overflow_add-b c = let P = c.requires in omega (arith, row_end P.0.rows _ P.1)

pub offset_bounds-verts-t-2 : goal.offset_bounds-verts-t-2
offset_bounds-verts-t-2 c = let P = c.requires in omega (arith, row_end P.0.rows _ P.1)

pub bounds-verts-t-2 : goal.bounds-verts-t-2
bounds-verts-t-2 c = let P = c.requires in omega (arith, row_end P.0.rows _ P.1)

pub join_facet-requires : goal.join_facet-requires
join_facet-requires c =
    let A = c.args in
    let P = c.requires in
    let l : A.i * 2 < length A.parent.now * 2 = omega (arith, P.1) in
    let q : A.i ≡ A.i * 2 / 2 = omega arith in
    record { n = _; verts = A.verts.now; room = P.0; step = facet_strap A.verts.now A.i (A.i * 2) P.0.particles l q; sided = P.2 }

pub overflow_add-t : goal.overflow_add-t
overflow_add-t c = let P = c.requires in omega (arith, row_end P.0.rows _ P.1)

pub join_facet-requires-2 : goal.join_facet-requires-2
join_facet-requires-2 c =
    let A = c.args in
    let P = c.requires in
    let J = c.join_facet in
    let l : A.i * 2 < length A.parent.now * 2 = omega (arith, P.1) in
    let m : A.i * 2 + 1 < length A.parent.now * 2 = omega (arith, P.1) in
    let q : A.i ≡ A.i * 2 / 2 = omega arith in
    let r : A.i ≡ (A.i * 2 + 1) / 2 = omega arith in
    record {
      n = _;
      verts = A.verts.now;
      room = room_for J.auto.heads J.auto.links J.auto.lows J.auto.parent P.0;
      step = facet_strap A.verts.now A.i (A.i * 2 + 1) P.0.particles m r;
      sided = J.ensures _ _ P.0 (facet_strap A.verts.now A.i (A.i * 2) P.0.particles l q) P.2;
    }

pub shape_of-heads : goal.shape_of-heads
shape_of-heads c = c.join_facet-2.auto.heads ∙ c.join_facet.auto.heads

pub shape_of-links : goal.shape_of-links
shape_of-links c = c.join_facet-2.auto.links ∙ c.join_facet.auto.links

pub shape_of-lows : goal.shape_of-lows
shape_of-lows c = c.join_facet-2.auto.lows ∙ c.join_facet.auto.lows

pub shape_of-parent : goal.shape_of-parent
shape_of-parent c = c.join_facet-2.auto.parent ∙ c.join_facet.auto.parent

pub returns : goal.returns
returns c =
    let A = c.args in
    let P = c.requires in
    let I = c.join_facet in
    let J = c.join_facet-2 in
    let l : A.i * 2 < length A.parent.now * 2 = omega (arith, P.1) in
    let m : A.i * 2 + 1 < length A.parent.now * 2 = omega (arith, P.1) in
    let q : A.i ≡ A.i * 2 / 2 = omega arith in
    let r : A.i ≡ (A.i * 2 + 1) / 2 = omega arith in
    let e : A.i * 2 + 1 + 1 ≡ (A.i + 1) * 2 = omega arith in
    sided_to e (J.ensures _ _ (room_for I.auto.heads I.auto.links I.auto.lows I.auto.parent P.0) (facet_strap A.verts.now A.i (A.i * 2 + 1) P.0.particles m r) (I.ensures _ _ P.0 (facet_strap A.verts.now A.i (A.i * 2) P.0.particles l q) P.2))
