-- `image_writing::store_words` meets its contract: one word more a turn. Assumes nothing.
use Prim.Native.Nat.{◌-◌}
use native.Mathlib.Omega.{arith}
use mathlib.Core.Path.{refl}
use lib.ListN.{length}
use Rattle.image_writing.proofs.Puts.{Putting, put_start, put_more, put_done}
use Rattle.image_writing.proofs.store_words.Goals as goal

pub loop-i-init : goal.loop-i-init
loop-i-init c = put_start (λ l. l) (λ x. x) refl (λ a. refl) (λ x y. refl) (λ x. refl) _ _ _

pub loop-i-preserved : goal.loop-i-preserved
loop-i-preserved c = put_more (λ l. l) (λ x. x) refl (λ a. refl) (λ x y. refl) (λ x. refl) _ _ _ _ _ _ 0 _ c.loop-i.invariant c.loop-i-test.true c.requires c.put_word.ensures refl c.put_word.auto.out

pub shape_of-out : goal.shape_of-out
shape_of-out c = c.loop-i.invariant.long

pub returns : goal.returns
returns c = put_done (λ l. l) (λ x. x) refl (λ a. refl) (λ x y. refl) (λ x. refl) _ _ _ _ _ c.loop-i.invariant c.loop-i-test.false
