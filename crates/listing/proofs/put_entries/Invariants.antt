-- `listing::put_entries` meets its contract: one entry more a turn. Assumes nothing.
use Rattle.listing.proofs.Appending.{Growing}
use Rattle.listing.specs.Work.{entry_line}
use Rattle.mesh.specs.Log.{log_at}
use Rattle.lists.specs.Lists.{each}
use Prim.Native.Nat.{◌-◌}
use Rattle.listing.proofs.put_entries.Given as goal

-- `listing::put_entries` meets its contract: one entry more a turn. Assumes nothing.
abbrev pub invariant-loop-i : goal.invariant-loop-i
invariant-loop-i l = Growing (λ k. each (entry_line l.word l.kind l.count) (log_at k l.log)) l.entries l.initial.out l.initial.at l.out l.at l.i
