-- `mending::same_ends` meets its contract. Assumes nothing.
use mathlib.Core.Path.{sym, ◌∙◌}
use Rattle.mending.specs.Work.{same_ends_of}
use Rattle.mending.proofs.same_ends.Goals as goal

pub returns-then-both : goal.returns-then-both
unfolding same_ends_of
returns-then-both c = let e = sym c.both.ensures ∙ c.if-both.true in rw e

pub returns-else-both : goal.returns-else-both
unfolding same_ends_of
returns-else-both c = let e = sym c.both.ensures ∙ c.if-both.false in rw e c.both-else-both.ensures
