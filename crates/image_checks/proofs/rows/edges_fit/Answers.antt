-- `image_checks::rows::edges_fit` meets its contract: it asks the edges run by run. Assumes nothing.
use mathlib.Core.Path.{◌∙◌}
use Rattle.judge.proofs.Joined.{and_next}
use Rattle.image_checks.proofs.Lists.{edges_told}
use Rattle.image_checks.proofs.rows.edges_fit.Goals as goal

pub returns : goal.returns
returns c = and_next _ _ _ _ _ c.both.ensures (and_next _ _ _ _ _ c.both-z.ensures c.flags-z.ensures c.lengths.ensures) c.in_range.ensures ∙ edges_told c.args.bytes.now c.args.at c.args.n
