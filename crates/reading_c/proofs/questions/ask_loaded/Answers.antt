-- `reading_c::questions::ask_loaded` meets its contract: a small image is asked in small blocks, any other in larger ones. Assumes nothing.
use native.Mathlib.Omega.{arith}
use mathlib.Core.Path.{sym, ◌∙◌}
use Rattle.image.proofs.Loading.{sized_counts}
use Rattle.image.proofs.Smallness.{small_loadable}
use Rattle.reading_c.proofs.questions.ask_loaded.Goals as goal

-- `reading_c::questions::ask_loaded` meets its contract: a small image is asked in small blocks, any other in larger ones. Assumes nothing.
pub is_small-requires : goal.is_small-requires
is_small-requires c = sized_counts _ c.requires.0

pub ask_in-requires : goal.ask_in-requires
ask_in-requires c = let P = c.requires in (P.0, P.1, small_loadable _ P.0 (sym c.is_small.ensures ∙ c.if-is_small.true), omega arith, omega arith, omega arith, omega arith, omega arith, omega arith)
