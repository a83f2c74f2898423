-- `link_changes::take_out` meets its contract: two places are written, the one before cell i and its link (proofs/Slots.antt). Assumes nothing.
use Rattle.link_changes.proofs.Slots.{put_in_link, put_in_slot, take_made}
use lib.ListN.{length-set}
use native.Mathlib.Omega.{arith}
use borrow.Author.Rules.{rules}
use Rattle.link_changes.proofs.take_out.Goals as goal

-- `link_changes::take_out` meets its contract: two places are written, the one before cell i and its link (proofs/Slots.antt). Assumes nothing.
pub slot_at-at-requires : goal.slot_at-at-requires
slot_at-at-requires c = c.requires.slot

pub bounds-table-own : goal.bounds-table-own
bounds-table-own c = put_in_link _ _ _ _ _ _ _ _ _ c.requires _ c.slot_at-at.ensures

pub bounds-table-at : goal.bounds-table-at
bounds-table-at c = put_in_slot _ _ _ _ _ _ _ _ _ c.requires _ c.slot_at-at.ensures

pub bounds-table-own-2 : goal.bounds-table-own-2
bounds-table-own-2 c = simp length-set (put_in_link _ _ _ _ _ _ _ _ _ c.requires _ c.slot_at-at.ensures)

pub returns : goal.returns
returns c = take_made _ _ _ _ _ _ _ _ _ c.requires _ c.slot_at-at.ensures
