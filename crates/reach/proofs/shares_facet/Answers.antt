-- `reach::shares_facet` meets its contract. Assumes nothing.
use native.Mathlib.Omega.{arith}
use mathlib.Core.Path.{subst}
use Prim.Native.Nat.{ℕ, ◌+◌, ◌*◌, ◌-◌, ◌≤◌}
use lib.ListN.{length}
use Rattle.reach.proofs.Rowing.{row_end, rows_share, three_facet}
use Rattle.reach.proofs.shares_facet.Goals as goal

-- `reach::shares_facet` meets its contract. Assumes nothing.
pub triangles_share-requires : goal.triangles_share-requires
triangles_share-requires c =
    let A = c.args in
    let P = c.requires in (
      subst (λ (k : ℕ). A.i * k + k ≤ length A.verts.now) c.if-k-eq3.true (row_end P.0 A.i P.1),
      subst (λ (k : ℕ). A.j * k + k ≤ length A.verts.now) c.if-k-eq3.true (row_end P.0 A.j P.2),
    )

pub returns-then-k-eq3 : goal.returns-then-k-eq3
returns-then-k-eq3 c =
    let A = c.args in
    three_facet A.k A.v A.verts.now A.i A.j _ c.if-k-eq3.true c.triangles_share.ensures

pub overflow_mul-a : goal.overflow_mul-a
overflow_mul-a c = let P = c.requires in omega (arith, row_end P.0 _ P.1, row_end P.0 _ P.2)

pub overflow_add-ae : goal.overflow_add-ae
overflow_add-ae c = let P = c.requires in omega (arith, row_end P.0 _ P.1, row_end P.0 _ P.2)

pub overflow_mul-b : goal.overflow_mul-b
overflow_mul-b c = let P = c.requires in omega (arith, row_end P.0 _ P.1, row_end P.0 _ P.2)

pub overflow_add-be : goal.overflow_add-be
overflow_add-be c = let P = c.requires in omega (arith, row_end P.0 _ P.1, row_end P.0 _ P.2)

pub offset_bounds-verts-a : goal.offset_bounds-verts-a
offset_bounds-verts-a c = let P = c.requires in omega (arith, row_end P.0 _ P.1, row_end P.0 _ P.2)

pub slice_bounds-shared_others-end : goal.slice_bounds-shared_others-end
slice_bounds-shared_others-end c = let P = c.requires in omega (arith, row_end P.0 _ P.1, row_end P.0 _ P.2)

pub offset_bounds-verts-b : goal.offset_bounds-verts-b
offset_bounds-verts-b c = let P = c.requires in omega (arith, row_end P.0 _ P.1, row_end P.0 _ P.2)

pub slice_bounds-shared_others-end-2 : goal.slice_bounds-shared_others-end-2
slice_bounds-shared_others-end-2 c = let P = c.requires in omega (arith, row_end P.0 _ P.1, row_end P.0 _ P.2)

pub returns : goal.returns
returns c =
    let A = c.args in
    rows_share A.k A.v A.verts.now A.i A.j _ (A.i * A.k + A.k - A.i * A.k) (A.j * A.k + A.k - A.j * A.k) (omega arith) (omega arith) c.shared_others.ensures
