-- `reading_c::questions::ask_larger` meets its contract: a middling image is asked in blocks of its own, any other in large ones. Assumes nothing.
use native.Mathlib.Omega.{arith}
use mathlib.Core.Path.{sym, ◌∙◌}
use Rattle.image.proofs.Loading.{sized_counts, sized_loadable}
use Rattle.image.proofs.Smallness.{middling_loadable}
use Rattle.reading_c.proofs.questions.ask_larger.Goals as goal

-- `reading_c::questions::ask_larger` meets its contract: a middling image is asked in blocks of its own, any other in large ones. Assumes nothing.
pub is_middling-requires : goal.is_middling-requires
is_middling-requires c = sized_counts _ c.requires.0

pub ask_in-requires : goal.ask_in-requires
ask_in-requires c = let P = c.requires in (P.0, P.1, middling_loadable _ P.0 (sym c.is_middling.ensures ∙ c.if-is_middling.true), omega arith, omega arith, omega arith, omega arith, omega arith, omega arith)

pub ask_in-requires-2 : goal.ask_in-requires-2
ask_in-requires-2 c = let P = c.requires in (P.0, P.1, sized_loadable _ P.0, omega arith, omega arith, omega arith, omega arith, omega arith, omega arith)
