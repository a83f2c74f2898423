-- `listing::put_text` meets its contract: one byte more a turn. Assumes nothing.
use Rattle.listing.proofs.Appending.{Growing}
use lib.ListN.{length, take}
use Prim.Native.Nat.{◌-◌}
use Rattle.listing.proofs.put_text.Given as goal

-- `listing::put_text` meets its contract: one byte more a turn. Assumes nothing.
abbrev pub invariant-loop-i : goal.invariant-loop-i
invariant-loop-i l = Growing (λ k. take k l.text) (length l.text) l.initial.out l.initial.at l.out l.at l.i
