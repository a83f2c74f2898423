-- `judge::tests::sizes_fit` meets its contract: four lists. Assumes nothing.
use Rattle.mesh.specs.Given.{lengths_fit}
use Rattle.judge.proofs.Joined.{and_next}
use Rattle.judge.proofs.tests.sizes_fit.Goals as goal

pub returns : goal.returns
unfolding lengths_fit
returns c = and_next _ _ _ _ _ c.both.ensures (and_next _ _ _ _ _ c.both-z-2.ensures (and_next _ _ _ _ _ c.both-z.ensures c.list_fits-z.ensures c.list_fits.ensures) c.list_fits-2.ensures) c.list_fits-3.ensures
