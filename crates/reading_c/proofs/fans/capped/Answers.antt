-- `reading_c::fans::capped` meets its contract: one case for each side of the test. Assumes nothing.
use mathlib.Core.Path.{refl}
use mathlib.Core.Logic.{inl, inr}
use Rattle.reading_c.proofs.fans.capped.Goals as goal

-- `reading_c::fans::capped` meets its contract: one case for each side of the test. Assumes nothing.
pub returns-then-n-most : goal.returns-then-n-most
returns-then-n-most c = inl (refl, c.if-n-most.true)

pub returns : goal.returns
returns c = inr (refl, c.if-n-most.false)
