-- `readings::reading::root` meets its contract. Assumes nothing.
use Rattle.model.specs.Reads.{rooted}
use mathlib.Core.Path.{sym, ◌∙◌, ap}
use Rattle.readings.proofs.reading.root.Goals as goal

pub returns-in-Some : goal.returns-in-Some
returns-in-Some c = ap rooted (sym c.in-Some.is ∙ c.root-r.ensures.0)

pub returns-in-None : goal.returns-in-None
returns-in-None c = ap rooted (sym c.in-None.is ∙ c.root-r.ensures.0)
