-- `image_writing::store_numbers_left` meets its contract: one run more a turn, and the last. Assumes nothing.
use Prim.Native.Nat.{◌-◌}
use native.Mathlib.Omega.{arith}
use mathlib.Core.Path.{refl, ◌∙◌}
use lib.Ieee.{binary32, to_bits}
use Rattle.image.specs.Words.{bits_in_of}
use Rattle.image_writing.proofs.Puts.{PuttingLeft, left_start, end_in, end_from, run_room, left_next, rest_room, left_done, bits_append, bits_length}
use Rattle.image_writing.proofs.store_numbers_left.Goals as goal

pub loop-j-init : goal.loop-j-init
loop-j-init c = left_start bits_in_of (to_bits binary32) refl (λ a. refl) bits_append bits_length _ _ _ _ _

pub slice_bounds-store_numbers-count : goal.slice_bounds-store_numbers-count
slice_bounds-store_numbers-count c = end_from bits_in_of (to_bits binary32) refl (λ a. refl) bits_append bits_length _ _ _ _ _ _ _ _ _ c.loop-j.invariant c.requires c.loop-j-test.true _ refl

pub slice_bounds-store_numbers-start : goal.slice_bounds-store_numbers-start
slice_bounds-store_numbers-start c = end_from bits_in_of (to_bits binary32) refl (λ a. refl) bits_append bits_length _ _ _ _ _ _ _ _ _ c.loop-j.invariant c.requires c.loop-j-test.true _ refl

pub slice_bounds-store_numbers-end : goal.slice_bounds-store_numbers-end
slice_bounds-store_numbers-end c = omega (arith, (end_in bits_in_of (to_bits binary32) refl (λ a. refl) bits_append bits_length _ _ _ _ _ _ _ _ _ c.loop-j.invariant c.requires c.loop-j-test.true _ refl))

pub store_numbers-requires : goal.store_numbers-requires
store_numbers-requires c = omega (arith, c.store_numbers-arg-1.given.1, (run_room bits_in_of (to_bits binary32) refl (λ a. refl) bits_append bits_length _ _ _ _ _ _ _ _ _ c.loop-j.invariant c.requires c.loop-j-test.true _ refl))

pub overflow_sub-to : goal.overflow_sub-to
overflow_sub-to c = end_from bits_in_of (to_bits binary32) refl (λ a. refl) bits_append bits_length _ _ _ _ _ _ _ _ _ c.loop-j.invariant c.requires c.loop-j-test.true _ refl

pub overflow_add-to : goal.overflow_add-to
overflow_add-to c = omega (arith, (run_room bits_in_of (to_bits binary32) refl (λ a. refl) bits_append bits_length _ _ _ _ _ _ _ _ _ c.loop-j.invariant c.requires c.loop-j-test.true _ refl))

pub overflow_add-from : goal.overflow_add-from
overflow_add-from c = omega (arith, (end_in bits_in_of (to_bits binary32) refl (λ a. refl) bits_append bits_length _ _ _ _ _ _ _ _ _ c.loop-j.invariant c.requires c.loop-j-test.true _ refl))

pub loop-j-preserved : goal.loop-j-preserved
loop-j-preserved c = left_next bits_in_of (to_bits binary32) refl (λ a. refl) bits_append bits_length _ _ _ _ _ _ _ _ _ c.loop-j.invariant c.requires c.loop-j-test.true _ refl _ c.store_numbers.ensures c.store_numbers.auto.out

pub slice_bounds-store_numbers-count-2 : goal.slice_bounds-store_numbers-count-2
slice_bounds-store_numbers-count-2 c = c.loop-j.invariant.within

pub slice_bounds-store_numbers-start-2 : goal.slice_bounds-store_numbers-start-2
slice_bounds-store_numbers-start-2 c = c.loop-j.invariant.within

pub store_numbers-requires-2 : goal.store_numbers-requires-2
store_numbers-requires-2 c = omega (arith, c.store_numbers-arg-2-1.given.1, (rest_room bits_in_of (to_bits binary32) refl (λ a. refl) bits_append bits_length _ _ _ _ _ _ _ _ _ c.loop-j.invariant c.requires c.loop-j-test.false))

pub shape_of-out : goal.shape_of-out
shape_of-out c = c.store_numbers-2.auto.out ∙ c.loop-j.invariant.long

pub returns : goal.returns
returns c = left_done bits_in_of (to_bits binary32) refl (λ a. refl) bits_append bits_length _ _ _ _ _ _ _ _ _ c.loop-j.invariant c.requires c.loop-j-test.false _ c.store_numbers-2.ensures
