-- `bodies::join_corners` meets its contract. The invariant: the first j corners of element i are joined to the first. Assumes nothing.
use borrow.Author.Rules.{rules}
use native.Mathlib.Omega.{arith}
use mathlib.Core.Path.{◌≡◌, refl, ◌∙◌, ap}
use mathlib.Core.List.{List}
use mathlib.Core.Logic.{⊎_elim}
use Prim.Native.Nat.{ℕ, ◌+◌, ◌*◌, ◌<◌, ◌≤◌, ◌-◌}
use lib.ListN.{length, get_or}
use Rattle.bodies.specs.Tables.{Link, Tied}
use Rattle.bodies.proofs.Corners.{corners_room, first_below, corner_below}
use Rattle.bodies.proofs.Trees.{tied_join, tied_one, tied_first, tied_at, link_more, link_here, link_split}
use Rattle.bodies.proofs.join_corners.Goals as goal
use Rattle.bodies.proofs.join_corners.Goals.{else-parent-first, then-parent-first}

pub overflow_mul-at : goal.overflow_mul-at
overflow_mul-at c =
    let A = c.args in
    let P = c.requires in
    omega (arith, corners_room P.corners A.i P.corner_step.inside)

pub offset_bounds-verts-at : goal.offset_bounds-verts-at
offset_bounds-verts-at c =
    let A = c.args in
    let P = c.requires in
    omega (arith, corners_room P.corners A.i P.corner_step.inside)

pub bounds-verts-at : goal.bounds-verts-at
bounds-verts-at c =
    let A = c.args in
    let P = c.requires in
    omega (arith, corners_room P.corners A.i P.corner_step.inside, P.corners.width.0)

pub loop-j-init : goal.loop-j-init
loop-j-init c =
    let A = c.args in
    let P = c.requires in
    (P.corners.width.0, refl, tied_first A.k A.verts.now A.i P.corners.width.0 (first_below P.corners A.i P.corner_step.inside) P.corner_step.tied)

pub overflow_add-place : goal.overflow_add-place
overflow_add-place c =
    let A = c.args in
    let P = c.requires in
    omega (arith, corners_room P.corners A.i P.corner_step.inside)

pub offset_bounds-verts-place : goal.offset_bounds-verts-place
offset_bounds-verts-place c =
    let A = c.args in
    let P = c.requires in
    omega (arith, corners_room P.corners A.i P.corner_step.inside)

pub bounds-verts-place : goal.bounds-verts-place
bounds-verts-place c =
    let A = c.args in
    let P = c.requires in
    omega (arith, corners_room P.corners A.i P.corner_step.inside)

pub offset_bounds-parent-first : goal.offset_bounds-parent-first
offset_bounds-parent-first c =
    let A = c.args in
    let P = c.requires in
    let L = c.loop-j in
    let l : L.j < A.k = omega arith in
    omega (arith, L.invariant.1, first_below P.corners A.i P.corner_step.inside, corner_below P.corners A.i L.j P.corner_step.inside l)

pub bounds-parent-first : goal.bounds-parent-first
bounds-parent-first c =
    let A = c.args in
    let P = c.requires in
    let L = c.loop-j in
    let l : L.j < A.k = omega arith in
    omega (arith, L.invariant.1, first_below P.corners A.i P.corner_step.inside, corner_below P.corners A.i L.j P.corner_step.inside l)

pub offset_bounds-parent-other : goal.offset_bounds-parent-other
offset_bounds-parent-other c =
    let A = c.args in
    let P = c.requires in
    let L = c.loop-j in
    let l : L.j < A.k = omega arith in
    omega (arith, L.invariant.1, first_below P.corners A.i P.corner_step.inside, corner_below P.corners A.i L.j P.corner_step.inside l)

pub bounds-parent-other : goal.bounds-parent-other
bounds-parent-other c =
    let A = c.args in
    let P = c.requires in
    let L = c.loop-j in
    let l : L.j < A.k = omega arith in
    omega (arith, L.invariant.1, first_below P.corners A.i P.corner_step.inside, corner_below P.corners A.i L.j P.corner_step.inside l)

pub join-requires : goal.join-requires
join-requires c =
    let A = c.args in
    let P = c.requires in
    let L = c.loop-j in
    let l : L.j < A.k = omega arith in
    let f = first_below P.corners A.i P.corner_step.inside in
    let g = corner_below P.corners A.i L.j P.corner_step.inside l in
    let e = L.invariant.1 in
    (omega arith, omega arith, L.invariant.2.down)

pub loop-j-preserved : goal.loop-j-preserved
loop-j-preserved c =
    let A = c.args in
    let P = c.requires in
    let L = c.loop-j in
    let l : L.j < A.k = omega arith in
    let verts = A.verts.now in
    let x = get_or verts (A.i * A.k) 0 in
    let y = get_or verts (A.i * A.k + L.j) 0 in
    let f : x < length L.parent = omega (arith, L.invariant.1, first_below P.corners A.i P.corner_step.inside) in
    let g : y < length L.parent = omega (arith, L.invariant.1, corner_below P.corners A.i L.j P.corner_step.inside l) in
    elim c.if-parent-first.branch [
      | then-parent-first w ↦ (
        omega arith,
        ap (λ (p : List ℕ). length p) w.parent-is ∙ w.join.ensures.long ∙ L.invariant.1,
        tied_at refl w.parent-is (tied_join x y L.invariant.2 w.join.ensures (link_more A.k verts A.i L.j l) (link_here A.k verts A.i L.j l) (link_split A.k verts A.i L.j l)),
      )
      | else-parent-first w ↦ let e : get_or L.parent x 0 ≡ get_or L.parent y 0 = omega (arith, w.if-parent-first.false) in (
        omega arith,
        ap (λ (p : List ℕ). length p) w.parent-is ∙ L.invariant.1,
        tied_at refl w.parent-is (tied_one x y L.invariant.2 f g e (link_more A.k verts A.i L.j l) (link_split A.k verts A.i L.j l)),
      )
    ]

pub shape_of-parent : goal.shape_of-parent
shape_of-parent c = c.loop-j.invariant.1

pub returns : goal.returns
returns c =
    let A = c.args in
    let L = c.loop-j in
    let e : A.i * A.k + L.j ≡ (A.i + 1) * A.k = omega arith in
    tied_at e refl L.invariant.2
