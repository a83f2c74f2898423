-- `image_writing::put_word` meets its contract: four stores are one word. Assumes nothing.
use Rattle.image.proofs.Words.{four_stored}
use native.Mathlib.Omega.{arith}
use lib.ListN.{length-set}
use borrow.Author.Rules.{rules}
use Rattle.image_writing.proofs.put_word.Goals as goal

pub bounds-out-at-2 : goal.bounds-out-at-2
bounds-out-at-2 c = simp length-set (omega arith)

pub bounds-out-at-3 : goal.bounds-out-at-3
bounds-out-at-3 c = simp length-set (omega arith)

pub bounds-out-at-4 : goal.bounds-out-at-4
bounds-out-at-4 c = simp length-set (omega arith)

pub returns : goal.returns
returns c = four_stored _ _ _ _ _ _ _ c.low.ensures c.low-2.ensures c.low-3.ensures c.low-4.ensures c.requires
