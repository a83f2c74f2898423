-- `image_checks::rows::particles_fit` meets its contract: it asks the particles run by run. Assumes nothing.
use mathlib.Core.Path.{◌∙◌}
use Rattle.judge.proofs.Joined.{and_next}
use Rattle.image_checks.proofs.Lists.{particles_told}
use Rattle.image_checks.proofs.rows.particles_fit.Goals as goal

pub returns : goal.returns
returns c = and_next _ _ _ _ _ c.both.ensures (and_next _ _ _ _ _ c.both-z-2.ensures (and_next _ _ _ _ _ c.both-z.ensures c.in_range-z.ensures c.finite.ensures) c.in_range.ensures) c.flags.ensures ∙ particles_told c.args.bytes.now c.args.n
