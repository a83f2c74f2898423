-- `sheet_c::writing::signed_into` meets its contract: a column fills with whole numbers. Assumes nothing.
use mathlib.Core.Path.{◌∙◌, ap}
use mir.Syntax.{w64}
use mir.Val.{to_z, of_z}
use Rattle.image.proofs.Words.{fill_start, fill_more, fill_done}
use Rattle.sheet_c.specs.Fields.{signed_of, signed_from}
use Rattle.sheet_c.proofs.Signs.{stored_same}
use Rattle.sheet_c.proofs.writing.signed_into.Goals as goal

pub loop-i-init : goal.loop-i-init
loop-i-init c = fill_start _ _ _

pub loop-i-preserved : goal.loop-i-preserved
loop-i-preserved c = fill_more _ _ _ _ _ (to_z w64 (of_z w64 c.signed.result)) c.loop-i.invariant c.loop-i-test.true c.requires.1 (stored_same c.signed.result _ c.signed.ensures c.word_at.ensures.1 ∙ (c.signed.ensures ∙ ap signed_of c.word_at.ensures.0))

pub shape_of-out : goal.shape_of-out
shape_of-out c = c.loop-i.invariant.long

pub returns : goal.returns
unfolding signed_from
returns c = fill_done _ _ _ _ _ c.loop-i.invariant c.loop-i-test.false
