-- `link_fans::straps_linked` meets its contract: the invariant is the cells found, and the straps among them in the tables (`Fanning` of proofs/Fanned.antt). Assumes nothing.
use Prim.Native.Nat.{◌/◌}
use native.Mathlib.Omega.{arith}
use mathlib.Core.Path.{refl}
use mathlib.Core.Logic.{⊎_elim}
use lib.ListN.{length, length-set}
use Rattle.columns.specs.Block.{cell}
use Rattle.links.proofs.Walked.{still_left}
use Rattle.link_fans.proofs.Fanned.{Fanning, straps_of, rows_two, fanning_start, fanning_within, fanning_few, fanning_link, fanning_less, strap_put, strap_full, strap_skip, straps_put}
use Rattle.link_fans.proofs.straps_linked.Goals as goal
use Rattle.link_fans.proofs.straps_linked.Goals.{else-ends-c-eq1, else-r-rows, then-ends-c-eq1, then-r-rows}

pub loop-at-init : goal.loop-at-init
loop-at-init c = fanning_start _ _ _ _ _ _ _ _ _ (c.first_at-at.ensures.is _ _ _ _ _ c.requires.0.are c.requires.2)

pub overflow_sub-i : goal.overflow_sub-i
overflow_sub-i c = c.loop-at-test.true

pub offset_bounds-numbers-r : goal.offset_bounds-numbers-r
offset_bounds-numbers-r c = let I = c.loop-at.invariant in let R = rows_two _ _ _ _ _ c.least.ensures c.least-rows.ensures in omega (arith, fanning_within _ _ _ _ _ _ _ _ _ _ _ _ _ c.loop-at.invariant c.loop-at-test.true, c.if-r-rows.true, c.requires.0.rows, c.requires.1)

pub bounds-numbers-r : goal.bounds-numbers-r
bounds-numbers-r c = let I = c.loop-at.invariant in let R = rows_two _ _ _ _ _ c.least.ensures c.least-rows.ensures in omega (arith, fanning_within _ _ _ _ _ _ _ _ _ _ _ _ _ c.loop-at.invariant c.loop-at-test.true, c.if-r-rows.true, c.requires.0.rows, c.requires.1)

pub offset_bounds-ends-i : goal.offset_bounds-ends-i
offset_bounds-ends-i c = let I = c.loop-at.invariant in let R = rows_two _ _ _ _ _ c.least.ensures c.least-rows.ensures in omega (arith, fanning_within _ _ _ _ _ _ _ _ _ _ _ _ _ c.loop-at.invariant c.loop-at-test.true, c.if-r-rows.true, c.requires.0.rows, c.requires.1)

pub bounds-ends-i : goal.bounds-ends-i
bounds-ends-i c = let I = c.loop-at.invariant in let R = rows_two _ _ _ _ _ c.least.ensures c.least-rows.ensures in omega (arith, fanning_within _ _ _ _ _ _ _ _ _ _ _ _ _ c.loop-at.invariant c.loop-at-test.true, c.if-r-rows.true, c.requires.0.rows, c.requires.1)

pub overflow_mul-verts : goal.overflow_mul-verts
overflow_mul-verts c = let I = c.loop-at.invariant in let R = rows_two _ _ _ _ _ c.least.ensures c.least-rows.ensures in omega (arith, fanning_within _ _ _ _ _ _ _ _ _ _ _ _ _ c.loop-at.invariant c.loop-at-test.true, c.if-r-rows.true, c.requires.0.rows, c.requires.1)

pub offset_bounds-verts-r : goal.offset_bounds-verts-r
offset_bounds-verts-r c = let I = c.loop-at.invariant in let R = rows_two _ _ _ _ _ c.least.ensures c.least-rows.ensures in omega (arith, fanning_within _ _ _ _ _ _ _ _ _ _ _ _ _ c.loop-at.invariant c.loop-at-test.true, c.if-r-rows.true, c.requires.0.rows, c.requires.1)

pub bounds-verts-r : goal.bounds-verts-r
bounds-verts-r c = let I = c.loop-at.invariant in let R = rows_two _ _ _ _ _ c.least.ensures c.least-rows.ensures in omega (arith, fanning_within _ _ _ _ _ _ _ _ _ _ _ _ _ c.loop-at.invariant c.loop-at-test.true, c.if-r-rows.true, c.requires.0.rows, c.requires.1)

pub overflow_add-verts : goal.overflow_add-verts
overflow_add-verts c = let I = c.loop-at.invariant in let R = rows_two _ _ _ _ _ c.least.ensures c.least-rows.ensures in omega (arith, fanning_within _ _ _ _ _ _ _ _ _ _ _ _ _ c.loop-at.invariant c.loop-at-test.true, c.if-r-rows.true, c.requires.0.rows, c.requires.1)

pub offset_bounds-ends-c-then-r-rows : goal.offset_bounds-ends-c-then-r-rows
offset_bounds-ends-c-then-r-rows c = let I = c.loop-at.invariant in let R = rows_two _ _ _ _ _ c.least.ensures c.least-rows.ensures in omega (arith, fanning_within _ _ _ _ _ _ _ _ _ _ _ _ _ c.loop-at.invariant c.loop-at-test.true, c.if-r-rows.true, c.requires.0.rows, c.requires.1)

pub bounds-ends-c-then-r-rows : goal.bounds-ends-c-then-r-rows
bounds-ends-c-then-r-rows c = let I = c.loop-at.invariant in let R = rows_two _ _ _ _ _ c.least.ensures c.least-rows.ensures in omega (arith, fanning_within _ _ _ _ _ _ _ _ _ _ _ _ _ c.loop-at.invariant c.loop-at-test.true, c.if-r-rows.true, c.requires.0.rows, c.requires.1)

pub overflow_mul-verts-then-r-rows : goal.overflow_mul-verts-then-r-rows
overflow_mul-verts-then-r-rows c = let I = c.loop-at.invariant in let R = rows_two _ _ _ _ _ c.least.ensures c.least-rows.ensures in omega (arith, fanning_within _ _ _ _ _ _ _ _ _ _ _ _ _ c.loop-at.invariant c.loop-at-test.true, c.if-r-rows.true, c.requires.0.rows, c.requires.1)

pub overflow_add-verts-then-r-rows : goal.overflow_add-verts-then-r-rows
overflow_add-verts-then-r-rows c = let I = c.loop-at.invariant in let R = rows_two _ _ _ _ _ c.least.ensures c.least-rows.ensures in omega (arith, fanning_within _ _ _ _ _ _ _ _ _ _ _ _ _ c.loop-at.invariant c.loop-at-test.true, c.if-r-rows.true, c.requires.0.rows, c.requires.1)

pub offset_bounds-verts-r-then-r-rows : goal.offset_bounds-verts-r-then-r-rows
offset_bounds-verts-r-then-r-rows c = let I = c.loop-at.invariant in let R = rows_two _ _ _ _ _ c.least.ensures c.least-rows.ensures in omega (arith, fanning_within _ _ _ _ _ _ _ _ _ _ _ _ _ c.loop-at.invariant c.loop-at-test.true, c.if-r-rows.true, c.requires.0.rows, c.requires.1)

pub bounds-verts-r-then-r-rows : goal.bounds-verts-r-then-r-rows
bounds-verts-r-then-r-rows c = let I = c.loop-at.invariant in let R = rows_two _ _ _ _ _ c.least.ensures c.least-rows.ensures in simp length-set (omega (arith, c.if-r-rows.true))

pub overflow_add-measures : goal.overflow_add-measures
overflow_add-measures c = let I = c.loop-at.invariant in let R = rows_two _ _ _ _ _ c.least.ensures c.least-rows.ensures in omega (arith, fanning_within _ _ _ _ _ _ _ _ _ _ _ _ _ c.loop-at.invariant c.loop-at-test.true, c.if-r-rows.true, c.requires.0.rows, c.requires.1)

pub offset_bounds-lengths-m : goal.offset_bounds-lengths-m
offset_bounds-lengths-m c = let I = c.loop-at.invariant in let R = rows_two _ _ _ _ _ c.least.ensures c.least-rows.ensures in omega (arith, fanning_within _ _ _ _ _ _ _ _ _ _ _ _ _ c.loop-at.invariant c.loop-at-test.true, c.if-r-rows.true, c.requires.0.rows, c.requires.1)

pub bounds-lengths-m : goal.bounds-lengths-m
bounds-lengths-m c = let I = c.loop-at.invariant in let R = rows_two _ _ _ _ _ c.least.ensures c.least-rows.ensures in omega (arith, fanning_within _ _ _ _ _ _ _ _ _ _ _ _ _ c.loop-at.invariant c.loop-at-test.true, c.if-r-rows.true, c.requires.0.rows, c.requires.1)

pub offset_bounds-measures-r : goal.offset_bounds-measures-r
offset_bounds-measures-r c = let I = c.loop-at.invariant in let R = rows_two _ _ _ _ _ c.least.ensures c.least-rows.ensures in omega (arith, fanning_within _ _ _ _ _ _ _ _ _ _ _ _ _ c.loop-at.invariant c.loop-at-test.true, c.if-r-rows.true, c.requires.0.rows, c.requires.1)

pub bounds-measures-r : goal.bounds-measures-r
bounds-measures-r c = let I = c.loop-at.invariant in let R = rows_two _ _ _ _ _ c.least.ensures c.least-rows.ensures in omega (arith, fanning_within _ _ _ _ _ _ _ _ _ _ _ _ _ c.loop-at.invariant c.loop-at-test.true, c.if-r-rows.true, c.requires.0.rows, c.requires.1)

pub next_at-at-requires : goal.next_at-at-requires
next_at-at-requires c = let f = c.requires.0.few in fanning_link _ _ _ _ _ _ _ _ _ _ _ _ _ c.loop-at.invariant c.loop-at-test.true _ _ _ _ _ refl (record { cells = c.requires.0.few; rows = c.requires.0.rows; columns = omega arith; table = c.requires.0.long; small = omega arith })

pub loop-at-smaller : goal.loop-at-smaller
loop-at-smaller c = fanning_less _ _ _ _ _ _ _ _ _ _ _ _ _ c.loop-at.invariant c.loop-at-test.true _ (c.next_at-at.ensures.is _ c.requires.0.are)

pub loop-at-preserved : goal.loop-at-preserved
loop-at-preserved c = let I = c.loop-at.invariant in let R = rows_two _ _ _ _ _ c.least.ensures c.least-rows.ensures in let e = c.next_at-at.ensures.is _ c.requires.0.are in let l = c.loop-at-test.true in
    elim c.if-ends-c-eq1.branch [
      | then-ends-c-eq1 w ↦ rw (w.numbers-is, w.verts-is, w.measures-is, w.r-is)
          (elim w.if-r-rows.branch [
            | then-r-rows u ↦ rw (u.numbers-is, u.verts-is, u.measures-is) (strap_put _ _ c.args.ends.now c.args.lengths.now _ _ _ _ _ _ _ _ I l _ e w.if-ends-c-eq1.true _ R u.if-r-rows.true)
            | else-r-rows u ↦ rw (u.numbers-is, u.verts-is, u.measures-is) (strap_full _ _ c.args.ends.now c.args.lengths.now _ _ _ _ _ _ _ _ I l _ e w.if-ends-c-eq1.true _ R (omega (arith, u.if-r-rows.false)))
          ])
      | else-ends-c-eq1 w ↦ rw (w.numbers-is, w.verts-is, w.measures-is, w.r-is) (strap_skip _ _ c.args.ends.now c.args.lengths.now _ _ _ _ _ _ _ _ I l _ e w.if-ends-c-eq1.false)
    ]

pub shape_of-numbers : goal.shape_of-numbers
shape_of-numbers c = c.loop-at.invariant.numbers_long

pub shape_of-verts : goal.shape_of-verts
shape_of-verts c = c.loop-at.invariant.verts_long

pub shape_of-measures : goal.shape_of-measures
shape_of-measures c = c.loop-at.invariant.measures_long

pub returns : goal.returns
returns c = straps_put _ _ _ _ _ _ _ _ _ _ _ _ c.loop-at.invariant (omega (arith, c.loop-at-test.false))

pub overflow_add-c : goal.overflow_add-c
overflow_add-c c = omega (arith, fanning_within _ _ _ _ _ _ _ _ _ _ _ _ _ c.loop-at.invariant c.loop-at-test.true, c.requires.0.rows)

pub offset_bounds-ends-c : goal.offset_bounds-ends-c
offset_bounds-ends-c c = omega (arith, fanning_within _ _ _ _ _ _ _ _ _ _ _ _ _ c.loop-at.invariant c.loop-at-test.true, c.requires.0.rows)

pub bounds-ends-c : goal.bounds-ends-c
bounds-ends-c c = omega (arith, fanning_within _ _ _ _ _ _ _ _ _ _ _ _ _ c.loop-at.invariant c.loop-at-test.true, c.requires.0.rows)
