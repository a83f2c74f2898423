-- `image_checks::places::two` meets its contract: an index, and another one. Assumes nothing.
use Rattle.judge.proofs.Fine.{two_fine}
use Rattle.image_checks.proofs.places.two.Goals as goal

pub returns : goal.returns
returns c = two_fine _ _ _ _ _ c.one.ensures c.other.ensures
