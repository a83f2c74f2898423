-- `marks::particles::mark_near` meets its contract. The invariant: the ends of the entries so far are marked. Assumes nothing.
use Rattle.marks.proofs.MarkLaws.{rows_none, rows_more, cleared_length, entry_split, entry_other, near_done}
use Rattle.marks.specs.Marking.{Marks, ends_in_of}
use Rattle.mesh.specs.Log.{entry_row}
use Rattle.lists.specs.Lists.{each, tab}
use lib.ListN.{length}
use Prim.Native.Nat.{◌≤◌, ◌-◌, ◌+◌, ◌*◌}
use mathlib.Core.Logic.{⊎_elim}
use mathlib.Core.Path.{◌≡◌, refl, ◌∙◌}
use native.Mathlib.Omega.{arith}
use Rattle.marks.proofs.particles.mark_near.Goals as goal
use Rattle.marks.proofs.particles.mark_near.Goals.{else-log-at-eq1, then-log-at-eq1}

pub loop-i-init : goal.loop-i-init
loop-i-init c = (omega arith, refl, rows_none ends_in_of (entry_row c.args.log.now) _ _ c.clear.ensures)

pub overflow_cast-log : goal.overflow_cast-log
overflow_cast-log c = omega (arith, c.shared_slice_known-then-log-at-eq1-1.given (6 * c.loop-i.i + 1))

pub overflow_cast-log-then-log-at-eq1 : goal.overflow_cast-log-then-log-at-eq1
overflow_cast-log-then-log-at-eq1 c = omega (arith, c.shared_slice_known-then-log-at-eq1-2-1.given (6 * c.loop-i.i + 2))

pub loop-i-preserved : goal.loop-i-preserved
loop-i-preserved c = let L = c.loop-i in
    let log = c.args.log.now in
    elim c.if-log-at-eq1.branch [
      | then-log-at-eq1 w ↦ let k = w.mark.auto.marks in
          let k' = w.mark-then-log-at-eq1.auto.marks in
          rw w.near-is (omega arith, k' ∙ k ∙ L.invariant.1, rows_more ends_in_of (entry_row log) L.i _ _ (k' ∙ k) L.invariant.2 (entry_split log L.i _ _ _ w.if-log-at-eq1.true k w.mark.ensures w.mark-then-log-at-eq1.ensures))
      | else-log-at-eq1 w ↦ rw w.near-is (omega arith, L.invariant.1, rows_more ends_in_of (entry_row log) L.i _ _ refl L.invariant.2 (entry_other log L.i _ w.if-log-at-eq1.false))
    ]

pub shape_of-near : goal.shape_of-near
shape_of-near c = c.loop-i.invariant.1 ∙ cleared_length _ _ c.clear.ensures

pub returns : goal.returns
returns c = near_done c.args.l c.loop-i.i c.args.log.now _ (omega arith) c.loop-i.invariant.2
