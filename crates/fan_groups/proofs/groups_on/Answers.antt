-- `fan_groups::groups_on` meets its contract. Assumes nothing.
use mathlib.Core.Path.{sym, ◌∙◌}
use Rattle.fan_groups.specs.Sides.{groups_on_of}
use Rattle.fan_groups.proofs.groups_on.Goals as goal

pub returns-then-stands_in : goal.returns-then-stands_in
unfolding groups_on_of
returns-then-stands_in c = rw (sym c.stands_in.ensures ∙ c.if-stands_in.true)

pub returns : goal.returns
unfolding groups_on_of
returns c = rw (sym c.stands_in.ensures ∙ c.if-stands_in.false)
