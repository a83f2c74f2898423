-- `link_fans::fan_linked` meets its contract: the invariant is the cells found, as triangles in the tables (`Fanning` of proofs/Fanned.antt). Assumes nothing.
use Prim.Native.Nat.{◌/◌}
use native.Mathlib.Omega.{arith}
use mathlib.Core.Path.{refl}
use mathlib.Core.Logic.{⊎_elim}
use lib.ListN.{length, length-set}
use Rattle.columns.specs.Block.{cell}
use Rattle.links.proofs.Walked.{still_left}
use Rattle.link_fans.proofs.Fanned.{Fanning, triangles_of, rows_three, fanning_start, fanning_within, fanning_few, fanning_link, fanning_less, triangle_put, triangle_full, triangles_put}
use Rattle.link_fans.proofs.fan_linked.Goals as goal
use Rattle.link_fans.proofs.fan_linked.Goals.{else-r-rows, then-r-rows}

pub loop-at-init : goal.loop-at-init
loop-at-init c = fanning_start _ _ _ _ _ _ _ _ _ (c.first_at-at.ensures.is _ _ _ _ _ c.requires.linked c.requires.here)

pub overflow_sub-i : goal.overflow_sub-i
overflow_sub-i c = c.loop-at-test.true

pub offset_bounds-numbers-r : goal.offset_bounds-numbers-r
offset_bounds-numbers-r c = let I = c.loop-at.invariant in let R = rows_three _ _ _ _ _ c.least.ensures c.least-rows.ensures in omega (arith, fanning_within _ _ _ _ _ _ _ _ _ _ _ _ _ c.loop-at.invariant c.loop-at-test.true, c.if-r-rows.true, c.requires.room.rows, c.requires.volumes)

pub bounds-numbers-r : goal.bounds-numbers-r
bounds-numbers-r c = let I = c.loop-at.invariant in let R = rows_three _ _ _ _ _ c.least.ensures c.least-rows.ensures in omega (arith, fanning_within _ _ _ _ _ _ _ _ _ _ _ _ _ c.loop-at.invariant c.loop-at-test.true, c.if-r-rows.true, c.requires.room.rows, c.requires.volumes)

pub offset_bounds-corners-i : goal.offset_bounds-corners-i
offset_bounds-corners-i c = let I = c.loop-at.invariant in let R = rows_three _ _ _ _ _ c.least.ensures c.least-rows.ensures in omega (arith, fanning_within _ _ _ _ _ _ _ _ _ _ _ _ _ c.loop-at.invariant c.loop-at-test.true, c.if-r-rows.true, c.requires.room.rows, c.requires.volumes)

pub bounds-corners-i : goal.bounds-corners-i
bounds-corners-i c = let I = c.loop-at.invariant in let R = rows_three _ _ _ _ _ c.least.ensures c.least-rows.ensures in omega (arith, fanning_within _ _ _ _ _ _ _ _ _ _ _ _ _ c.loop-at.invariant c.loop-at-test.true, c.if-r-rows.true, c.requires.room.rows, c.requires.volumes)

pub overflow_mul-verts : goal.overflow_mul-verts
overflow_mul-verts c = let I = c.loop-at.invariant in let R = rows_three _ _ _ _ _ c.least.ensures c.least-rows.ensures in omega (arith, fanning_within _ _ _ _ _ _ _ _ _ _ _ _ _ c.loop-at.invariant c.loop-at-test.true, c.if-r-rows.true, c.requires.room.rows, c.requires.volumes)

pub offset_bounds-verts-r : goal.offset_bounds-verts-r
offset_bounds-verts-r c = let I = c.loop-at.invariant in let R = rows_three _ _ _ _ _ c.least.ensures c.least-rows.ensures in omega (arith, fanning_within _ _ _ _ _ _ _ _ _ _ _ _ _ c.loop-at.invariant c.loop-at-test.true, c.if-r-rows.true, c.requires.room.rows, c.requires.volumes)

pub bounds-verts-r : goal.bounds-verts-r
bounds-verts-r c = let I = c.loop-at.invariant in let R = rows_three _ _ _ _ _ c.least.ensures c.least-rows.ensures in omega (arith, fanning_within _ _ _ _ _ _ _ _ _ _ _ _ _ c.loop-at.invariant c.loop-at-test.true, c.if-r-rows.true, c.requires.room.rows, c.requires.volumes)

pub overflow_add-verts : goal.overflow_add-verts
overflow_add-verts c = let I = c.loop-at.invariant in let R = rows_three _ _ _ _ _ c.least.ensures c.least-rows.ensures in omega (arith, fanning_within _ _ _ _ _ _ _ _ _ _ _ _ _ c.loop-at.invariant c.loop-at-test.true, c.if-r-rows.true, c.requires.room.rows, c.requires.volumes)

pub offset_bounds-corners-c : goal.offset_bounds-corners-c
offset_bounds-corners-c c = let I = c.loop-at.invariant in let R = rows_three _ _ _ _ _ c.least.ensures c.least-rows.ensures in omega (arith, fanning_within _ _ _ _ _ _ _ _ _ _ _ _ _ c.loop-at.invariant c.loop-at-test.true, c.if-r-rows.true, c.requires.room.rows, c.requires.volumes)

pub bounds-corners-c : goal.bounds-corners-c
bounds-corners-c c = let I = c.loop-at.invariant in let R = rows_three _ _ _ _ _ c.least.ensures c.least-rows.ensures in omega (arith, fanning_within _ _ _ _ _ _ _ _ _ _ _ _ _ c.loop-at.invariant c.loop-at-test.true, c.if-r-rows.true, c.requires.room.rows, c.requires.volumes)

pub overflow_mul-verts-then-r-rows : goal.overflow_mul-verts-then-r-rows
overflow_mul-verts-then-r-rows c = let I = c.loop-at.invariant in let R = rows_three _ _ _ _ _ c.least.ensures c.least-rows.ensures in omega (arith, fanning_within _ _ _ _ _ _ _ _ _ _ _ _ _ c.loop-at.invariant c.loop-at-test.true, c.if-r-rows.true, c.requires.room.rows, c.requires.volumes)

pub overflow_add-verts-then-r-rows : goal.overflow_add-verts-then-r-rows
overflow_add-verts-then-r-rows c = let I = c.loop-at.invariant in let R = rows_three _ _ _ _ _ c.least.ensures c.least-rows.ensures in omega (arith, fanning_within _ _ _ _ _ _ _ _ _ _ _ _ _ c.loop-at.invariant c.loop-at-test.true, c.if-r-rows.true, c.requires.room.rows, c.requires.volumes)

pub offset_bounds-verts-r-then-r-rows : goal.offset_bounds-verts-r-then-r-rows
offset_bounds-verts-r-then-r-rows c = let I = c.loop-at.invariant in let R = rows_three _ _ _ _ _ c.least.ensures c.least-rows.ensures in omega (arith, fanning_within _ _ _ _ _ _ _ _ _ _ _ _ _ c.loop-at.invariant c.loop-at-test.true, c.if-r-rows.true, c.requires.room.rows, c.requires.volumes)

pub bounds-verts-r-then-r-rows : goal.bounds-verts-r-then-r-rows
bounds-verts-r-then-r-rows c = let I = c.loop-at.invariant in let R = rows_three _ _ _ _ _ c.least.ensures c.least-rows.ensures in simp length-set (omega (arith, c.if-r-rows.true))

pub overflow_mul-verts-then-r-rows-2 : goal.overflow_mul-verts-then-r-rows-2
overflow_mul-verts-then-r-rows-2 c = let I = c.loop-at.invariant in let R = rows_three _ _ _ _ _ c.least.ensures c.least-rows.ensures in omega (arith, fanning_within _ _ _ _ _ _ _ _ _ _ _ _ _ c.loop-at.invariant c.loop-at-test.true, c.if-r-rows.true, c.requires.room.rows, c.requires.volumes)

pub overflow_add-verts-then-r-rows-2 : goal.overflow_add-verts-then-r-rows-2
overflow_add-verts-then-r-rows-2 c = let I = c.loop-at.invariant in let R = rows_three _ _ _ _ _ c.least.ensures c.least-rows.ensures in omega (arith, fanning_within _ _ _ _ _ _ _ _ _ _ _ _ _ c.loop-at.invariant c.loop-at-test.true, c.if-r-rows.true, c.requires.room.rows, c.requires.volumes)

pub offset_bounds-corners-c-then-r-rows : goal.offset_bounds-corners-c-then-r-rows
offset_bounds-corners-c-then-r-rows c = let I = c.loop-at.invariant in let R = rows_three _ _ _ _ _ c.least.ensures c.least-rows.ensures in omega (arith, fanning_within _ _ _ _ _ _ _ _ _ _ _ _ _ c.loop-at.invariant c.loop-at-test.true, c.if-r-rows.true, c.requires.room.rows, c.requires.volumes)

pub bounds-corners-c-then-r-rows : goal.bounds-corners-c-then-r-rows
bounds-corners-c-then-r-rows c = let I = c.loop-at.invariant in let R = rows_three _ _ _ _ _ c.least.ensures c.least-rows.ensures in omega (arith, fanning_within _ _ _ _ _ _ _ _ _ _ _ _ _ c.loop-at.invariant c.loop-at-test.true, c.if-r-rows.true, c.requires.room.rows, c.requires.volumes)

pub overflow_mul-verts-then-r-rows-3 : goal.overflow_mul-verts-then-r-rows-3
overflow_mul-verts-then-r-rows-3 c = let I = c.loop-at.invariant in let R = rows_three _ _ _ _ _ c.least.ensures c.least-rows.ensures in omega (arith, fanning_within _ _ _ _ _ _ _ _ _ _ _ _ _ c.loop-at.invariant c.loop-at-test.true, c.if-r-rows.true, c.requires.room.rows, c.requires.volumes)

pub overflow_add-verts-then-r-rows-3 : goal.overflow_add-verts-then-r-rows-3
overflow_add-verts-then-r-rows-3 c = let I = c.loop-at.invariant in let R = rows_three _ _ _ _ _ c.least.ensures c.least-rows.ensures in omega (arith, fanning_within _ _ _ _ _ _ _ _ _ _ _ _ _ c.loop-at.invariant c.loop-at-test.true, c.if-r-rows.true, c.requires.room.rows, c.requires.volumes)

pub offset_bounds-verts-r-then-r-rows-2 : goal.offset_bounds-verts-r-then-r-rows-2
offset_bounds-verts-r-then-r-rows-2 c = let I = c.loop-at.invariant in let R = rows_three _ _ _ _ _ c.least.ensures c.least-rows.ensures in omega (arith, fanning_within _ _ _ _ _ _ _ _ _ _ _ _ _ c.loop-at.invariant c.loop-at-test.true, c.if-r-rows.true, c.requires.room.rows, c.requires.volumes)

pub bounds-verts-r-then-r-rows-2 : goal.bounds-verts-r-then-r-rows-2
bounds-verts-r-then-r-rows-2 c = let I = c.loop-at.invariant in let R = rows_three _ _ _ _ _ c.least.ensures c.least-rows.ensures in simp length-set (omega (arith, c.if-r-rows.true))

pub offset_bounds-volumes-i : goal.offset_bounds-volumes-i
offset_bounds-volumes-i c = let I = c.loop-at.invariant in let R = rows_three _ _ _ _ _ c.least.ensures c.least-rows.ensures in omega (arith, fanning_within _ _ _ _ _ _ _ _ _ _ _ _ _ c.loop-at.invariant c.loop-at-test.true, c.if-r-rows.true, c.requires.room.rows, c.requires.volumes)

pub bounds-volumes-i : goal.bounds-volumes-i
bounds-volumes-i c = let I = c.loop-at.invariant in let R = rows_three _ _ _ _ _ c.least.ensures c.least-rows.ensures in omega (arith, fanning_within _ _ _ _ _ _ _ _ _ _ _ _ _ c.loop-at.invariant c.loop-at-test.true, c.if-r-rows.true, c.requires.room.rows, c.requires.volumes)

pub offset_bounds-measures-r : goal.offset_bounds-measures-r
offset_bounds-measures-r c = let I = c.loop-at.invariant in let R = rows_three _ _ _ _ _ c.least.ensures c.least-rows.ensures in omega (arith, fanning_within _ _ _ _ _ _ _ _ _ _ _ _ _ c.loop-at.invariant c.loop-at-test.true, c.if-r-rows.true, c.requires.room.rows, c.requires.volumes)

pub bounds-measures-r : goal.bounds-measures-r
bounds-measures-r c = let I = c.loop-at.invariant in let R = rows_three _ _ _ _ _ c.least.ensures c.least-rows.ensures in omega (arith, fanning_within _ _ _ _ _ _ _ _ _ _ _ _ _ c.loop-at.invariant c.loop-at-test.true, c.if-r-rows.true, c.requires.room.rows, c.requires.volumes)

pub next_at-at-requires : goal.next_at-at-requires
next_at-at-requires c = fanning_link _ _ _ _ _ _ _ _ _ _ _ _ _ c.loop-at.invariant c.loop-at-test.true _ _ _ _ _ refl c.requires.room

pub loop-at-smaller : goal.loop-at-smaller
loop-at-smaller c = fanning_less _ _ _ _ _ _ _ _ _ _ _ _ _ c.loop-at.invariant c.loop-at-test.true _ (c.next_at-at.ensures.is _ c.requires.linked)

pub loop-at-preserved : goal.loop-at-preserved
loop-at-preserved c = let I = c.loop-at.invariant in let R = rows_three _ _ _ _ _ c.least.ensures c.least-rows.ensures in let e = c.next_at-at.ensures.is _ c.requires.linked in
    elim c.if-r-rows.branch [
      | then-r-rows w ↦ rw (w.numbers-is, w.verts-is, w.measures-is) (triangle_put _ _ c.args.corners.now c.args.volumes.now _ _ _ _ _ _ _ _ I c.loop-at-test.true _ R _ e _ w.abs.ensures w.if-r-rows.true)
      | else-r-rows w ↦ rw (w.numbers-is, w.verts-is, w.measures-is) (triangle_full _ _ c.args.corners.now c.args.volumes.now _ _ _ _ _ _ _ _ I c.loop-at-test.true _ R _ e (omega (arith, w.if-r-rows.false)))
    ]

pub shape_of-numbers : goal.shape_of-numbers
shape_of-numbers c = c.loop-at.invariant.numbers_long

pub shape_of-verts : goal.shape_of-verts
shape_of-verts c = c.loop-at.invariant.verts_long

pub shape_of-measures : goal.shape_of-measures
shape_of-measures c = c.loop-at.invariant.measures_long

pub returns : goal.returns
returns c = triangles_put _ _ _ _ _ _ _ _ _ _ _ _ c.loop-at.invariant (omega (arith, c.loop-at-test.false))
