-- `mending::put_doubles` meets its contract: one mark more a turn. Assumes nothing.
use Prim.Native.Nat.{◌-◌}
use lib.ListN.{length, take}
use Rattle.lists.specs.Lists.{each}
use Rattle.listing.proofs.Appending.{Growing}
use Rattle.mending.specs.Sheets.{drop_line}
use Rattle.mending.specs.Work.{double_by}
use Rattle.mending.proofs.put_doubles.Given as goal

-- `mending::put_doubles` meets its contract: one mark more a turn. Assumes nothing.
abbrev pub invariant-loop-i : goal.invariant-loop-i
invariant-loop-i l = Growing (λ k. each (drop_line l.word) (double_by 0 (take k l.mask))) (length l.mask) l.initial.out l.initial.at l.out l.at l.i
