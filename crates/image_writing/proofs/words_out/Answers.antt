-- `image_writing::words_out` meets its contract: one word more a turn. Assumes nothing.
use Prim.Native.Nat.{◌-◌}
use native.Mathlib.Omega.{arith}
use borrow.Author.Rules.{rules}
use Rattle.image.proofs.Words.{Writing, write_start, write_more, write_done}
use Rattle.image_writing.proofs.words_out.Goals as goal

pub loop-i-init : goal.loop-i-init
loop-i-init c = write_start _ _ _ _ _ c.write_one.ensures c.write_one.auto.out

pub loop-i-preserved : goal.loop-i-preserved
loop-i-preserved c = write_more _ _ _ _ _ _ _ c.loop-i.invariant c.loop-i-test.true c.requires.1 (omega (arith, c.requires.0, c.write_one.auto.out)) c.put_word.ensures c.put_word.auto.out

pub returns : goal.returns
returns c = write_done _ _ _ _ _ _ _ c.loop-i.invariant c.loop-i-test.false c.write_one.auto.out
