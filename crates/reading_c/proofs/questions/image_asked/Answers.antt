-- `reading_c::questions::image_asked` meets its contract: 1, or the answer to the question. Assumes nothing.
use mathlib.Core.Path.{sym, ◌∙◌}
use Rattle.reading_c.proofs.Answering.{asked_unsized}
use Rattle.reading_c.proofs.questions.image_asked.Goals as goal

pub ask_sized-requires : goal.ask_sized-requires
ask_sized-requires c = (sym c.image_sized.ensures ∙ c.if-image_sized.true, c.requires)

pub returns-then-image_sized : goal.returns-then-image_sized
returns-then-image_sized c = c.ask_sized.ensures

pub returns : goal.returns
returns c = asked_unsized _ _ _ _ _ _ _ c.image_sized.ensures c.if-image_sized.false c.reply_refused.ensures
