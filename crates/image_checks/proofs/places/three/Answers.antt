-- `image_checks::places::three` meets its contract: two, another one, and that the last two differ. Assumes nothing.
use native.Mathlib.Omega.{arith}
use Rattle.judge.proofs.Fine.{three_fine, differ_fine}
use Rattle.image_checks.proofs.places.three.Goals as goal

pub returns : goal.returns
returns c = three_fine _ _ _ _ _ _ _ (omega (arith, c.requires.0)) c.two.ensures c.other.ensures (differ_fine _ _ _ c.differ.ensures)
