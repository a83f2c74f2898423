-- `image_writing::store_numbers_block` meets its contract: one column more a turn. Assumes nothing.
use Prim.Native.Nat.{◌-◌}
use native.Mathlib.Omega.{arith}
use mathlib.Core.Path.{refl}
use lib.Ieee.{binary32, to_bits}
use Rattle.image.specs.Words.{bits_in_of}
use Rattle.image_writing.proofs.Puts.{PuttingBlock, block_start, column_in, front_in, listed_few, front_room, column_placed, block_more, block_done, bits_append, bits_length}
use Rattle.image_writing.proofs.store_numbers_block.Given as goal

-- `image_writing::store_numbers_block` meets its contract: one column more a turn. Assumes nothing.
abbrev pub invariant-loop-c : goal.invariant-loop-c
invariant-loop-c l = PuttingBlock bits_in_of l.width l.n l.s l.gone l.at l.block l.initial.out l.out l.c l.o l.to
