-- `link_changes::slot_at` meets its contract: the place passes over cells below i only (`Slotting` of proofs/Slots.antt). Assumes nothing.
use Rattle.link_changes.proofs.Slots.{Slotting, left_to, slotting_start, slotting_done, slotting_row, slotting_link, slotting_more, slotting_less}
use Rattle.columns.specs.Block.{cell}
use Prim.Native.Nat.{◌+◌, ◌*◌, ◌-◌}
use mathlib.Core.Logic.{inl, inr}
use native.Mathlib.Omega.{arith}
use Rattle.link_changes.proofs.slot_at.Given as goal

-- `link_changes::slot_at` meets its contract: the place passes over cells below i only (`Slotting` of proofs/Slots.antt). Assumes nothing.
abbrev pub invariant-loop-next : goal.invariant-loop-next
invariant-loop-next l = Slotting l.heads l.k l.span l.v l.i (cell 0 l.rows l.corners) l.table l.at l.next

abbrev pub decreases-loop-next : goal.decreases-loop-next
decreases-loop-next l = left_to l.i l.next
