-- `image_checks::places::one` meets its contract: the sum with the room is below 2 ^ 63 where the index is below n. Assumes nothing.
use native.Mathlib.Omega.{arith}
use Rattle.image_checks.proofs.Columns.{one_fine}
use Rattle.image_checks.proofs.places.one.Goals as goal

pub returns : goal.returns
returns c = one_fine _ _ _ c.requires.0
