-- `arguments::tests::point_fits` meets its contract. Assumes nothing.
use Rattle.judge.proofs.Joined.{and_next}
use Rattle.arguments.proofs.tests.point_fits.Goals as goal

pub returns : goal.returns
returns c = and_next _ _ _ _ _ c.both.ensures c.in_range.ensures c.in_range-2.ensures
