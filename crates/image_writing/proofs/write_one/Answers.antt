-- `image_writing::write_one` meets its contract: one word behind none. Assumes nothing.
use native.Mathlib.Omega.{arith}
use mathlib.Core.Path.{refl}
use mathlib.Core.List.{[], ◌∷◌}
use Rattle.image.proofs.Words.{put_more}
use borrow.Author.Rules.{rules}
use Rattle.image_writing.proofs.write_one.Goals as goal

pub returns : goal.returns
returns c = put_more _ [] _ _ 0 _ c.clear_bytes.ensures c.put_word.ensures refl (omega arith)
