-- `reach::holds` meets its contract. Assumes nothing.
use native.Mathlib.Omega.{arith}
use mathlib.Core.Path.{subst}
use Prim.Native.Nat.{ℕ, ◌+◌, ◌*◌, ◌-◌, ◌≤◌}
use lib.ListN.{length}
use Rattle.reach.proofs.Rowing.{row_end, row_held, three_holds}
use Rattle.reach.proofs.holds.Goals as goal

-- `reach::holds` meets its contract. Assumes nothing.
pub triangle_holds-requires : goal.triangle_holds-requires
triangle_holds-requires c =
    let A = c.args in
    let P = c.requires in
    subst (λ (k : ℕ). A.j * k + k ≤ length A.verts.now) c.if-k-eq3.true (row_end P.0 A.j P.1)

pub returns-then-k-eq3 : goal.returns-then-k-eq3
returns-then-k-eq3 c =
    let A = c.args in
    three_holds A.k A.v A.verts.now A.j _ c.if-k-eq3.true c.triangle_holds.ensures

pub overflow_mul-a : goal.overflow_mul-a
overflow_mul-a c = let P = c.requires in omega (arith, row_end P.0 _ P.1)

pub overflow_add-e : goal.overflow_add-e
overflow_add-e c = let P = c.requires in omega (arith, row_end P.0 _ P.1)

pub offset_bounds-verts-a : goal.offset_bounds-verts-a
offset_bounds-verts-a c = let P = c.requires in omega (arith, row_end P.0 _ P.1)

pub slice_bounds-stands_in-end : goal.slice_bounds-stands_in-end
slice_bounds-stands_in-end c = let P = c.requires in omega (arith, row_end P.0 _ P.1)

pub returns : goal.returns
returns c =
    let A = c.args in
    row_held A.k A.v A.verts.now A.j (A.j * A.k + A.k - A.j * A.k) _ (omega arith) c.stands_in.ensures
