-- `image_writing::store_words_left` meets its contract: one run more a turn, and the last. Assumes nothing.
use Prim.Native.Nat.{◌-◌}
use native.Mathlib.Omega.{arith}
use mathlib.Core.Path.{refl, ◌∙◌}
use Rattle.image_writing.proofs.Puts.{PuttingLeft, left_start, end_in, end_from, run_room, left_next, rest_room, left_done}
use Rattle.image_writing.proofs.store_words_left.Goals as goal

pub loop-j-init : goal.loop-j-init
loop-j-init c = left_start (λ l. l) (λ x. x) refl (λ a. refl) (λ x y. refl) (λ x. refl) _ _ _ _ _

pub slice_bounds-store_words-count : goal.slice_bounds-store_words-count
slice_bounds-store_words-count c = end_from (λ l. l) (λ x. x) refl (λ a. refl) (λ x y. refl) (λ x. refl) _ _ _ _ _ _ _ _ _ c.loop-j.invariant c.requires c.loop-j-test.true _ refl

pub slice_bounds-store_words-start : goal.slice_bounds-store_words-start
slice_bounds-store_words-start c = end_from (λ l. l) (λ x. x) refl (λ a. refl) (λ x y. refl) (λ x. refl) _ _ _ _ _ _ _ _ _ c.loop-j.invariant c.requires c.loop-j-test.true _ refl

pub slice_bounds-store_words-end : goal.slice_bounds-store_words-end
slice_bounds-store_words-end c = omega (arith, (end_in (λ l. l) (λ x. x) refl (λ a. refl) (λ x y. refl) (λ x. refl) _ _ _ _ _ _ _ _ _ c.loop-j.invariant c.requires c.loop-j-test.true _ refl))

pub store_words-requires : goal.store_words-requires
store_words-requires c = omega (arith, c.store_words-arg-1.given.1, (run_room (λ l. l) (λ x. x) refl (λ a. refl) (λ x y. refl) (λ x. refl) _ _ _ _ _ _ _ _ _ c.loop-j.invariant c.requires c.loop-j-test.true _ refl))

pub overflow_sub-to : goal.overflow_sub-to
overflow_sub-to c = end_from (λ l. l) (λ x. x) refl (λ a. refl) (λ x y. refl) (λ x. refl) _ _ _ _ _ _ _ _ _ c.loop-j.invariant c.requires c.loop-j-test.true _ refl

pub overflow_add-to : goal.overflow_add-to
overflow_add-to c = omega (arith, (run_room (λ l. l) (λ x. x) refl (λ a. refl) (λ x y. refl) (λ x. refl) _ _ _ _ _ _ _ _ _ c.loop-j.invariant c.requires c.loop-j-test.true _ refl))

pub overflow_add-from : goal.overflow_add-from
overflow_add-from c = omega (arith, (end_in (λ l. l) (λ x. x) refl (λ a. refl) (λ x y. refl) (λ x. refl) _ _ _ _ _ _ _ _ _ c.loop-j.invariant c.requires c.loop-j-test.true _ refl))

pub loop-j-preserved : goal.loop-j-preserved
loop-j-preserved c = left_next (λ l. l) (λ x. x) refl (λ a. refl) (λ x y. refl) (λ x. refl) _ _ _ _ _ _ _ _ _ c.loop-j.invariant c.requires c.loop-j-test.true _ refl _ c.store_words.ensures c.store_words.auto.out

pub slice_bounds-store_words-count-2 : goal.slice_bounds-store_words-count-2
slice_bounds-store_words-count-2 c = c.loop-j.invariant.within

pub slice_bounds-store_words-start-2 : goal.slice_bounds-store_words-start-2
slice_bounds-store_words-start-2 c = c.loop-j.invariant.within

pub store_words-requires-2 : goal.store_words-requires-2
store_words-requires-2 c = omega (arith, c.store_words-arg-2-1.given.1, (rest_room (λ l. l) (λ x. x) refl (λ a. refl) (λ x y. refl) (λ x. refl) _ _ _ _ _ _ _ _ _ c.loop-j.invariant c.requires c.loop-j-test.false))

pub shape_of-out : goal.shape_of-out
shape_of-out c = c.store_words-2.auto.out ∙ c.loop-j.invariant.long

pub returns : goal.returns
returns c = left_done (λ l. l) (λ x. x) refl (λ a. refl) (λ x y. refl) (λ x. refl) _ _ _ _ _ _ _ _ _ c.loop-j.invariant c.requires c.loop-j-test.false _ c.store_words-2.ensures
