-- `listing::put_line` meets its contract: a word, one number more a turn, and the end of the line. Assumes nothing.
use Rattle.listing.proofs.Appending.{Growing}
use Rattle.listing.specs.Listing.{spaced}
use Rattle.lists.specs.Lists.{each}
use lib.ListN.{length, take}
use Prim.Native.Nat.{◌-◌}
use Rattle.listing.proofs.put_line.Given as goal

-- `listing::put_line` meets its contract: a word, one number more a turn, and the end of the line. Assumes nothing.
abbrev pub invariant-loop-i : goal.invariant-loop-i
invariant-loop-i l = Growing (λ k. each spaced (take k l.numbers)) (length l.numbers) l.initial.out l.initial.at l.out l.at l.i
