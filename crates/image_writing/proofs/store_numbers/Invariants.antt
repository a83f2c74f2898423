-- `image_writing::store_numbers` meets its contract: one word more a turn. Assumes nothing.
use Prim.Native.Nat.{◌-◌}
use native.Mathlib.Omega.{arith}
use mathlib.Core.Path.{refl}
use lib.ListN.{length}
use lib.Ieee.{binary32, to_bits, nan}
use Rattle.image.specs.Words.{bits_in_of}
use Rattle.image_writing.proofs.Puts.{Putting, put_start, put_more, put_done, bits_append, bits_length}
use Rattle.image_writing.proofs.store_numbers.Given as goal

-- `image_writing::store_numbers` meets its contract: one word more a turn. Assumes nothing.
abbrev pub invariant-loop-i : goal.invariant-loop-i
invariant-loop-i l = Putting bits_in_of l.at l.numbers l.initial.out l.out l.i
