-- `link_changes::slot_at` meets its contract: the place passes over cells below i only (`Slotting` of proofs/Slots.antt). Assumes nothing.
use Rattle.link_changes.proofs.Slots.{Slotting, left_to, slotting_start, slotting_done, slotting_row, slotting_link, slotting_more, slotting_less}
use Rattle.columns.specs.Block.{cell}
use Prim.Native.Nat.{◌+◌, ◌*◌, ◌-◌}
use mathlib.Core.Logic.{inl, inr}
use native.Mathlib.Omega.{arith}
use Rattle.link_changes.proofs.slot_at.Goals as goal

pub offset_bounds-table-v : goal.offset_bounds-table-v
offset_bounds-table-v c = let P = c.requires in omega (arith, P.head, P.places)

pub bounds-table-v : goal.bounds-table-v
bounds-table-v c = let P = c.requires in omega (arith, P.head, P.places)

pub loop-next-init : goal.loop-next-init
loop-next-init c = slotting_start _ _ _ _ _ _ _ _ c.requires

pub returns-then-next-i : goal.returns-then-next-i
returns-then-next-i c = slotting_done _ _ _ _ _ _ _ _ c.requires _ _ c.loop-next.invariant (inr c.if-next-i.true)

pub overflow_sub-next : goal.overflow_sub-next
overflow_sub-next c = c.loop-next-test.true

pub corner_at-c-requires : goal.corner_at-c-requires
corner_at-c-requires c = slotting_row _ _ _ _ _ _ _ _ c.requires _ _ c.loop-next.invariant c.loop-next-test.true c.if-next-i.false

pub overflow_mul-at : goal.overflow_mul-at
overflow_mul-at c = let h = slotting_link _ _ _ _ _ _ _ _ c.requires _ _ c.loop-next.invariant c.loop-next-test.true c.if-next-i.false _ c.corner_at-c.ensures in omega (arith, h)

pub overflow_sub-at : goal.overflow_sub-at
overflow_sub-at c = c.loop-next-test.true

pub overflow_add-at : goal.overflow_add-at
overflow_add-at c = let h = slotting_link _ _ _ _ _ _ _ _ c.requires _ _ c.loop-next.invariant c.loop-next-test.true c.if-next-i.false _ c.corner_at-c.ensures in omega (arith, h)

pub overflow_add-at-in-loop-next : goal.overflow_add-at-in-loop-next
overflow_add-at-in-loop-next c = let h = slotting_link _ _ _ _ _ _ _ _ c.requires _ _ c.loop-next.invariant c.loop-next-test.true c.if-next-i.false _ c.corner_at-c.ensures in omega (arith, h)

pub offset_bounds-table-at : goal.offset_bounds-table-at
offset_bounds-table-at c = let h = slotting_link _ _ _ _ _ _ _ _ c.requires _ _ c.loop-next.invariant c.loop-next-test.true c.if-next-i.false _ c.corner_at-c.ensures in omega (arith, h)

pub bounds-table-at : goal.bounds-table-at
bounds-table-at c = slotting_link _ _ _ _ _ _ _ _ c.requires _ _ c.loop-next.invariant c.loop-next-test.true c.if-next-i.false _ c.corner_at-c.ensures

pub overflow_cast-next-in-loop-next : goal.overflow_cast-next-in-loop-next
overflow_cast-next-in-loop-next c = omega (arith, c.shared_slice_known-in-loop-next-1.given (c.args.heads + (c.corner_at-c.result * c.args.span + (c.loop-next.next - 1))))

pub loop-next-smaller : goal.loop-next-smaller
loop-next-smaller c = slotting_less _ _ _ _ _ _ _ _ c.requires _ _ c.loop-next.invariant c.loop-next-test.true c.if-next-i.false _ c.corner_at-c.ensures

pub loop-next-preserved : goal.loop-next-preserved
loop-next-preserved c = slotting_more _ _ _ _ _ _ _ _ c.requires _ _ c.loop-next.invariant c.loop-next-test.true c.if-next-i.false _ c.corner_at-c.ensures

pub returns : goal.returns
returns c = slotting_done _ _ _ _ _ _ _ _ c.requires _ _ c.loop-next.invariant (inl (omega arith))
