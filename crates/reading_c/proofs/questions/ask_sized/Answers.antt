-- `reading_c::questions::ask_sized` meets its contract: the elements answer, or the blocks. Assumes nothing.
use mathlib.Core.Path.{refl}
use Rattle.reading_replies.proofs.Replying.{pieces_small, measure_small}
use Rattle.reading_c.proofs.Listing.{measure_of_small}
use Rattle.reading_c.proofs.Asking.{pieces_asked, measure_asked, measure_of_asked}
use Rattle.reading_c.proofs.Answering.{asked_on, asked_as}
use Rattle.reading_c.proofs.questions.ask_sized.Goals as goal

pub pieces-requires : goal.pieces-requires
pieces-requires c = c.requires.0

pub reply_count-requires : goal.reply_count-requires
reply_count-requires c = pieces_small _ _ _ c.pieces.ensures

pub returns-in-Pieces : goal.returns-in-Pieces
returns-in-Pieces c = asked_on _ _ _ _ _ _ _ c.requires.0 refl (pieces_asked _ _ _ _ _ _ _ _ c.in-Pieces.is c.pieces.ensures c.reply_count.ensures)

pub measure-requires : goal.measure-requires
measure-requires c = c.requires.0

pub reply_number-requires : goal.reply_number-requires
reply_number-requires c = measure_small _ _ _ c.measure.ensures

pub returns-in-Measure : goal.returns-in-Measure
returns-in-Measure c = asked_on _ _ _ _ _ _ _ c.requires.0 refl (measure_asked _ _ _ _ _ _ _ _ c.in-Measure.is c.measure.ensures c.reply_number.ensures)

pub measure_of-requires : goal.measure_of-requires
measure_of-requires c = c.requires.0

pub reply_number-requires-in-MeasureOf : goal.reply_number-requires-in-MeasureOf
reply_number-requires-in-MeasureOf c = measure_of_small _ _ _ _ c.measure_of.ensures

pub returns-in-MeasureOf : goal.returns-in-MeasureOf
returns-in-MeasureOf c = asked_on _ _ _ _ _ _ _ c.requires.0 refl (measure_of_asked _ _ _ _ _ _ _ _ c.in-MeasureOf.is c.measure_of.ensures c.reply_number-in-MeasureOf.ensures)

pub returns-in-Opens : goal.returns-in-Opens
returns-in-Opens c = asked_as _ _ _ _ _ _ _ c.in-Opens.is c.ask_loaded.ensures

pub returns-in-Groups : goal.returns-in-Groups
returns-in-Groups c = asked_as _ _ _ _ _ _ _ c.in-Groups.is c.ask_loaded-in-Groups.ensures

pub returns-in-Unread : goal.returns-in-Unread
returns-in-Unread c = asked_as _ _ _ _ _ _ _ c.in-Unread.is c.ask_loaded-in-Unread.ensures
