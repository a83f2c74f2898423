-- `judge::tests::list_fits` meets its contract: the tests are joined one by one. Assumes nothing.
use Rattle.std.proofs.Common.{refl}
use Rattle.mesh.specs.Given.{list_fits_of}
use Rattle.judge.proofs.Joined.{and_next}
use Rattle.judge.proofs.tests.list_fits.Goals as goal

pub returns : goal.returns
unfolding list_fits_of
returns c = and_next _ _ _ _ _ c.both.ensures (and_next _ _ _ _ _ c.both-z-2.ensures c.both-z.ensures refl) refl
