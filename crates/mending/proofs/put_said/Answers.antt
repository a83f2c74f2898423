-- `mending::put_said` meets its contract: four pieces from nothing on, then the end. Assumes nothing.
use mathlib.Core.Path.{◌∙◌}
use Rattle.listing.proofs.Appending.{wrote, appends_then}
use Rattle.mending.specs.Work.{said_by}
use Rattle.mending.proofs.put_said.Goals as goal

pub returns : goal.returns
unfolding said_by
returns c =
    wrote
    (appends_then c.put_causes-at.ensures (appends_then c.put_causes-at-2.ensures (appends_then c.put_causes-at-3.ensures c.put_doubles-at.ensures)))
    c.finish.ensures
    (c.put_doubles-at.auto.out ∙ (c.put_causes-at-3.auto.out ∙ (c.put_causes-at-2.auto.out ∙ c.put_causes-at.auto.out)))
