-- `reach::triangles_share` meets its contract. Assumes nothing.
use native.Mathlib.Omega.{arith}
use Prim.Native.Nat.{◌+◌, ◌*◌}
use lib.ListN.{get_or}
use Rattle.reach.specs.Walk.{row}
use Rattle.reach.proofs.Rowing.{corner_one, three_shared, three_apart}
use Rattle.reach.proofs.triangles_share.Goals as goal

pub overflow_add-a : goal.overflow_add-a
overflow_add-a c =
    let A = c.args in
    let R = row 3 A.verts.now A.j in
    let p = corner_one A.v (get_or A.verts.now (A.i * 3) 0) R c.shares_corner-a.ensures in
    let q = corner_one A.v (get_or A.verts.now (A.i * 3 + 1) 0) R c.shares_corner-b.ensures in
    omega arith

pub returns-then-a-b-eq0 : goal.returns-then-a-b-eq0
returns-then-a-b-eq0 c =
    let A = c.args in
    three_apart A.v A.verts.now A.i A.j c.requires.0 _ _ c.shares_corner-a.ensures c.shares_corner-b.ensures c.if-a-b-eq0.true

pub overflow_add-result : goal.overflow_add-result
overflow_add-result c =
    let A = c.args in
    let R = row 3 A.verts.now A.j in
    let p = corner_one A.v (get_or A.verts.now (A.i * 3) 0) R c.shares_corner-a.ensures in
    let q = corner_one A.v (get_or A.verts.now (A.i * 3 + 1) 0) R c.shares_corner-b.ensures in
    let r = corner_one A.v (get_or A.verts.now (A.i * 3 + 2) 0) R c.shares_corner-c.ensures in
    omega arith

pub overflow_add-result-2 : goal.overflow_add-result-2
overflow_add-result-2 c =
    let A = c.args in
    let R = row 3 A.verts.now A.j in
    let p = corner_one A.v (get_or A.verts.now (A.i * 3) 0) R c.shares_corner-a.ensures in
    let q = corner_one A.v (get_or A.verts.now (A.i * 3 + 1) 0) R c.shares_corner-b.ensures in
    let r = corner_one A.v (get_or A.verts.now (A.i * 3 + 2) 0) R c.shares_corner-c.ensures in
    omega arith

pub returns : goal.returns
returns c =
    let A = c.args in
    three_shared A.v A.verts.now A.i A.j c.requires.0 _ _ _ c.shares_corner-a.ensures c.shares_corner-b.ensures c.shares_corner-c.ensures
