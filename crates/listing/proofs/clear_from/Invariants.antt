-- `listing::clear_from` meets its contract: from a place within the bytes on every byte is 0. Assumes nothing.
use Rattle.listing.proofs.Appending.{ClearingFrom}
use lib.ListN.{length}
use Prim.Native.Nat.{◌-◌}
use Rattle.listing.proofs.clear_from.Given as goal

-- `listing::clear_from` meets its contract: from a place within the bytes on every byte is 0. Assumes nothing.
abbrev pub invariant-loop-i : goal.invariant-loop-i
invariant-loop-i l = ClearingFrom l.from l.initial.out l.out l.i
