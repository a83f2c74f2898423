-- `image_writing::write_two` meets its contract: one word behind one. Assumes nothing.
use native.Mathlib.Omega.{arith}
use mathlib.Core.Path.{refl}
use mathlib.Core.List.{[], ◌∷◌}
use Rattle.image.proofs.Words.{put_more}
use borrow.Author.Rules.{rules}
use Rattle.image_writing.proofs.write_two.Goals as goal

pub returns : goal.returns
returns c = put_more _ (_ ∷ []) _ _ 1 _ c.write_one.ensures c.put_word.ensures refl (omega arith)
