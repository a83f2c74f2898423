-- `feeding::standing_of` meets its contract. Assumes nothing.
use mathlib.Core.Path.{sym, ◌∙◌}
use Rattle.feeding.proofs.Bytes.{stands_none, stands_shut, stands_open}
use Rattle.feeding.proofs.standing_of.Goals as goal

-- `feeding::standing_of` meets its contract. Assumes nothing.
pub returns-then-reader-ne-SIZE : goal.returns-then-reader-ne-SIZE
returns-then-reader-ne-SIZE c = sym (stands_none _ c.if-reader-ne-SIZE.true)

pub returns-then-word_at-ne0 : goal.returns-then-word_at-ne0
returns-then-word_at-ne0 c = sym (stands_shut _ c.if-reader-ne-SIZE.false (λ e. c.if-word_at-ne0.true (c.word_at.ensures.0 ∙ e)))

pub returns : goal.returns
returns c = sym (stands_open _ c.if-reader-ne-SIZE.false (sym c.word_at.ensures.0 ∙ c.if-word_at-ne0.false))
