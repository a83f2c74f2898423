-- `image_writing::store_words_block` meets its contract: one column more a turn. Assumes nothing.
use mathlib.Core.Path.{sym}
use Prim.Native.Nat.{◌-◌}
use native.Mathlib.Omega.{arith}
use mathlib.Core.Path.{refl}
use Rattle.image_writing.proofs.Puts.{PuttingBlock, block_start, column_in, front_in, listed_few, front_room, column_placed, block_more, block_done}
use Rattle.image_writing.proofs.store_words_block.Goals as goal

pub loop-c-init : goal.loop-c-init
loop-c-init c = block_start (λ l. l) (λ x. x) refl (λ a. refl) (λ x y. refl) (λ x. refl) _ _ _ _ _ _ _

pub overflow_add-end : goal.overflow_add-end
overflow_add-end c = omega (arith, (front_in (λ l. l) (λ x. x) refl (λ a. refl) (λ x y. refl) (λ x. refl) _ _ _ _ _ _ _ _ _ _ _ c.loop-c.invariant c.loop-c-test.true c.requires))

pub offset_bounds-block-o : goal.offset_bounds-block-o
offset_bounds-block-o c = omega (arith, (front_in (λ l. l) (λ x. x) refl (λ a. refl) (λ x y. refl) (λ x. refl) _ _ _ _ _ _ _ _ _ _ _ c.loop-c.invariant c.loop-c-test.true c.requires))

pub slice_bounds-store_words_left-end : goal.slice_bounds-store_words_left-end
slice_bounds-store_words_left-end c = front_in (λ l. l) (λ x. x) refl (λ a. refl) (λ x y. refl) (λ x. refl) _ _ _ _ _ _ _ _ _ _ _ c.loop-c.invariant c.loop-c-test.true c.requires

pub store_words_left-requires : goal.store_words_left-requires
store_words_left-requires c = column_placed (λ l. l) (λ x. x) refl (λ a. refl) (λ x y. refl) (λ x. refl) _ _ _ _ _ _ _ _ _ _ _ c.loop-c.invariant c.loop-c-test.true c.requires _ (sym c.store_words_left-arg-1.given.1)

pub overflow_add-o : goal.overflow_add-o
overflow_add-o c = omega (arith, (column_in (λ l. l) (λ x. x) refl (λ a. refl) (λ x y. refl) (λ x. refl) _ _ _ _ _ _ _ _ _ _ _ c.loop-c.invariant c.loop-c-test.true c.requires))

pub overflow_sub-to : goal.overflow_sub-to
overflow_sub-to c = listed_few (λ l. l) (λ x. x) refl (λ a. refl) (λ x y. refl) (λ x. refl) _ _ _ _ _ _ _ _ _ _ _ c.loop-c.invariant c.loop-c-test.true c.requires

pub overflow_add-to : goal.overflow_add-to
overflow_add-to c = omega (arith, (front_room (λ l. l) (λ x. x) refl (λ a. refl) (λ x y. refl) (λ x. refl) _ _ _ _ _ _ _ _ _ _ _ c.loop-c.invariant c.loop-c-test.true c.requires))

pub loop-c-preserved : goal.loop-c-preserved
loop-c-preserved c = block_more (λ l. l) (λ x. x) refl (λ a. refl) (λ x y. refl) (λ x. refl) _ _ _ _ _ _ _ _ _ _ _ c.loop-c.invariant c.loop-c-test.true c.requires _ c.store_words_left.ensures c.store_words_left.auto.out

pub shape_of-out : goal.shape_of-out
shape_of-out c = c.loop-c.invariant.long

pub returns : goal.returns
returns c = block_done (λ l. l) (λ x. x) refl (λ a. refl) (λ x y. refl) (λ x. refl) _ _ _ _ _ _ _ _ _ _ _ c.loop-c.invariant c.loop-c-test.false
