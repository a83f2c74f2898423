-- `image_writing::store_numbers_left` meets its contract: one run more a turn, and the last. Assumes nothing.
use Prim.Native.Nat.{◌-◌}
use native.Mathlib.Omega.{arith}
use mathlib.Core.Path.{refl, ◌∙◌}
use lib.Ieee.{binary32, to_bits}
use Rattle.image.specs.Words.{bits_in_of}
use Rattle.image_writing.proofs.Puts.{PuttingLeft, left_start, end_in, end_from, run_room, left_next, rest_room, left_done, bits_append, bits_length}
use Rattle.image_writing.proofs.store_numbers_left.Given as goal

-- `image_writing::store_numbers_left` meets its contract: one run more a turn, and the last. Assumes nothing.
abbrev pub invariant-loop-j : goal.invariant-loop-j
invariant-loop-j l = PuttingLeft bits_in_of l.s l.gone l.at l.column l.initial.out l.out l.from l.to l.j
