-- `image::words_into` meets its contract: a block fills with words. Assumes nothing.
use native.Mathlib.Omega.{arith}
use Rattle.image.specs.Words.{words_from}
use Rattle.image.proofs.Words.{fill_start, fill_more, fill_done}
use Rattle.image.proofs.words_into.Goals as goal

pub loop-i-init : goal.loop-i-init
loop-i-init c = fill_start _ _ _

pub loop-i-preserved : goal.loop-i-preserved
loop-i-preserved c = fill_more _ _ _ _ _ _ c.loop-i.invariant c.loop-i-test.true c.requires.1 c.word_at.ensures.0

pub shape_of-out : goal.shape_of-out
shape_of-out c = c.loop-i.invariant.long

pub returns : goal.returns
unfolding words_from
returns c = fill_done _ _ _ _ _ c.loop-i.invariant c.loop-i-test.false
