-- `reading_c::questions::ask` meets its contract: each question is put to its entry, and the answer told. Assumes nothing.
use mathlib.Core.Path.{ap, ◌∙◌}
use Rattle.reading_c.specs.Questions.{question_of}
use Rattle.reading_c.proofs.Siding.{opens_small}
use Rattle.reading_c.proofs.Asking.{question_as, opens_asked, unread_fits, unread_asked}
use Rattle.reading_c.proofs.questions.ask.Goals as goal

pub reply_truth-requires : goal.reply_truth-requires
reply_truth-requires c = opens_small _ _ _ _ _ _ c.opens_without_confetti-a.ensures

pub returns-in-Opens : goal.returns-in-Opens
returns-in-Opens c = opens_asked _ _ _ _ _ _ _ _ _ _ (ap question_of c.in-Opens.is) c.opens_without_confetti-a.ensures c.reply_truth.ensures

pub returns-in-Groups : goal.returns-in-Groups
returns-in-Groups c = question_as _ _ _ _ _ _ _ _ (ap question_of c.in-Groups.is) c.ask_groups.ensures

pub reply_refused-requires : goal.reply_refused-requires
reply_refused-requires c = unread_fits _ _ _ c.judge-fault.ensures (c.number.ensures ∙ c.unread.ensures)

pub returns-in-Unread : goal.returns-in-Unread
returns-in-Unread c = unread_asked _ _ _ _ _ _ _ _ (ap question_of c.in-Unread.is) c.judge-fault.ensures (c.number.ensures ∙ c.unread.ensures) c.reply_refused.ensures
