-- `image_writing::store_numbers` meets its contract: one word more a turn. Assumes nothing.
use Prim.Native.Nat.{◌-◌}
use native.Mathlib.Omega.{arith}
use mathlib.Core.Path.{refl}
use lib.ListN.{length}
use lib.Ieee.{binary32, to_bits, nan}
use Rattle.image.specs.Words.{bits_in_of}
use Rattle.image_writing.proofs.Puts.{Putting, put_start, put_more, put_done, bits_append, bits_length}
use Rattle.image_writing.proofs.store_numbers.Goals as goal

pub loop-i-init : goal.loop-i-init
loop-i-init c = put_start bits_in_of (to_bits binary32) refl (λ a. refl) bits_append bits_length _ _ _

pub loop-i-preserved : goal.loop-i-preserved
loop-i-preserved c = put_more bits_in_of (to_bits binary32) refl (λ a. refl) bits_append bits_length _ _ _ _ _ _ nan _ c.loop-i.invariant c.loop-i-test.true c.requires c.put_word.ensures c.bits_of.ensures c.put_word.auto.out

pub shape_of-out : goal.shape_of-out
shape_of-out c = c.loop-i.invariant.long

pub returns : goal.returns
returns c = put_done bits_in_of (to_bits binary32) refl (λ a. refl) bits_append bits_length _ _ _ _ _ c.loop-i.invariant c.loop-i-test.false
