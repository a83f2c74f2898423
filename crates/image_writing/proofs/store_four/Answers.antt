-- `image_writing::store_four` meets its contract: four words, one behind the other. Assumes nothing.
use native.Mathlib.Omega.{arith}
use Rattle.image_writing.proofs.Puts.{four_put}
use borrow.Author.Rules.{rules}
use Rattle.image_writing.proofs.store_four.Goals as goal

pub returns : goal.returns
returns c = four_put _ _ _ _ _ _ _ _ _ _ c.requires c.put_word.ensures c.put_word-2.ensures c.put_word-3.ensures c.put_word-4.ensures
