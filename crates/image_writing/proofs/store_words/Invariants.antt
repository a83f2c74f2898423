-- `image_writing::store_words` meets its contract: one word more a turn. Assumes nothing.
use Prim.Native.Nat.{◌-◌}
use native.Mathlib.Omega.{arith}
use mathlib.Core.Path.{refl}
use lib.ListN.{length}
use Rattle.image_writing.proofs.Puts.{Putting, put_start, put_more, put_done}
use Rattle.image_writing.proofs.store_words.Given as goal

-- `image_writing::store_words` meets its contract: one word more a turn. Assumes nothing.
abbrev pub invariant-loop-i : goal.invariant-loop-i
invariant-loop-i l = Putting (λ l. l) l.at l.words l.initial.out l.out l.i
