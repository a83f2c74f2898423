-- `feeding::feed_bytes` meets its contract. Assumes nothing.
use mathlib.Core.Path.{sym, ◌∙◌}
use Rattle.feeding.proofs.Bytes.{open_stands}
use Rattle.feeding.proofs.Steps.{feed_open, feed_not}
use Rattle.feeding.proofs.feed_bytes.Goals as goal

pub grow-requires : goal.grow-requires
grow-requires c = (open_stands _ (sym c.standing_of-why.ensures ∙ c.if-why-eq0.true)).0

pub returns-then-why-eq0 : goal.returns-then-why-eq0
returns-then-why-eq0 c = feed_open _ _ _ _ c.standing_of-why.ensures (sym c.standing_of-why.ensures ∙ c.if-why-eq0.true) c.grow.ensures

pub returns-else-why-eq0 : goal.returns-else-why-eq0
returns-else-why-eq0 c = feed_not _ _ _ c.standing_of-why.ensures (λ e. c.if-why-eq0.false (c.standing_of-why.ensures ∙ e))
