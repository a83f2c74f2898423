-- `image::numbers_into` meets its contract: a block fills with numbers. Assumes nothing.
use native.Mathlib.Omega.{arith}
use mathlib.Core.Path.{◌∙◌, ap}
use Rattle.image.specs.Words.{number_of, numbers_from}
use Rattle.image.proofs.Words.{fill_start, fill_more, fill_done}
use Rattle.image.proofs.numbers_into.Goals as goal

pub loop-i-init : goal.loop-i-init
loop-i-init c = fill_start _ _ _

pub loop-i-preserved : goal.loop-i-preserved
loop-i-preserved c = fill_more _ _ _ _ _ _ c.loop-i.invariant c.loop-i-test.true c.requires.1 (c.number_of.ensures ∙ ap number_of c.word_at.ensures.0)

pub shape_of-out : goal.shape_of-out
shape_of-out c = c.loop-i.invariant.long

pub returns : goal.returns
unfolding numbers_from
returns c = fill_done _ _ _ _ _ c.loop-i.invariant c.loop-i-test.false
