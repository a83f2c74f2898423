-- `image_writing::store_numbers_block` meets its contract: one column more a turn. Assumes nothing.
use mathlib.Core.Path.{sym}
use Prim.Native.Nat.{◌-◌}
use native.Mathlib.Omega.{arith}
use mathlib.Core.Path.{refl}
use lib.Ieee.{binary32, to_bits}
use Rattle.image.specs.Words.{bits_in_of}
use Rattle.image_writing.proofs.Puts.{PuttingBlock, block_start, column_in, front_in, listed_few, front_room, column_placed, block_more, block_done, bits_append, bits_length}
use Rattle.image_writing.proofs.store_numbers_block.Goals as goal

pub loop-c-init : goal.loop-c-init
loop-c-init c = block_start bits_in_of (to_bits binary32) refl (λ a. refl) bits_append bits_length _ _ _ _ _ _ _

pub overflow_add-end : goal.overflow_add-end
overflow_add-end c = omega (arith, (front_in bits_in_of (to_bits binary32) refl (λ a. refl) bits_append bits_length _ _ _ _ _ _ _ _ _ _ _ c.loop-c.invariant c.loop-c-test.true c.requires))

pub offset_bounds-block-o : goal.offset_bounds-block-o
offset_bounds-block-o c = omega (arith, (front_in bits_in_of (to_bits binary32) refl (λ a. refl) bits_append bits_length _ _ _ _ _ _ _ _ _ _ _ c.loop-c.invariant c.loop-c-test.true c.requires))

pub slice_bounds-store_numbers_left-end : goal.slice_bounds-store_numbers_left-end
slice_bounds-store_numbers_left-end c = front_in bits_in_of (to_bits binary32) refl (λ a. refl) bits_append bits_length _ _ _ _ _ _ _ _ _ _ _ c.loop-c.invariant c.loop-c-test.true c.requires

pub store_numbers_left-requires : goal.store_numbers_left-requires
store_numbers_left-requires c = column_placed bits_in_of (to_bits binary32) refl (λ a. refl) bits_append bits_length _ _ _ _ _ _ _ _ _ _ _ c.loop-c.invariant c.loop-c-test.true c.requires _ (sym c.store_numbers_left-arg-1.given.1)

pub overflow_add-o : goal.overflow_add-o
overflow_add-o c = omega (arith, (column_in bits_in_of (to_bits binary32) refl (λ a. refl) bits_append bits_length _ _ _ _ _ _ _ _ _ _ _ c.loop-c.invariant c.loop-c-test.true c.requires))

pub overflow_sub-to : goal.overflow_sub-to
overflow_sub-to c = listed_few bits_in_of (to_bits binary32) refl (λ a. refl) bits_append bits_length _ _ _ _ _ _ _ _ _ _ _ c.loop-c.invariant c.loop-c-test.true c.requires

pub overflow_add-to : goal.overflow_add-to
overflow_add-to c = omega (arith, (front_room bits_in_of (to_bits binary32) refl (λ a. refl) bits_append bits_length _ _ _ _ _ _ _ _ _ _ _ c.loop-c.invariant c.loop-c-test.true c.requires))

pub loop-c-preserved : goal.loop-c-preserved
loop-c-preserved c = block_more bits_in_of (to_bits binary32) refl (λ a. refl) bits_append bits_length _ _ _ _ _ _ _ _ _ _ _ c.loop-c.invariant c.loop-c-test.true c.requires _ c.store_numbers_left.ensures c.store_numbers_left.auto.out

pub shape_of-out : goal.shape_of-out
shape_of-out c = c.loop-c.invariant.long

pub returns : goal.returns
returns c = block_done bits_in_of (to_bits binary32) refl (λ a. refl) bits_append bits_length _ _ _ _ _ _ _ _ _ _ _ c.loop-c.invariant c.loop-c-test.false
