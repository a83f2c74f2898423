-- `edition::typed::start_bit` meets its contract. Assumes nothing.
use mathlib.Core.Path.{sym, ◌∙◌}
use Rattle.edition.proofs.typed.start_bit.Goals as goal

pub returns-then-is_second : goal.returns-then-is_second
returns-then-is_second c = let e = sym c.is_second.ensures ∙ c.if-is_second.true in rw e

pub returns-else-is_second : goal.returns-else-is_second
returns-else-is_second c = let e = sym c.is_second.ensures ∙ c.if-is_second.false in rw e
