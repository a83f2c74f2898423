-- `image_checks::rows::triangles_fit` meets its contract: it asks the volumes and the stresses. Assumes nothing.
use Rattle.judge.proofs.Joined.{and_next}
use Rattle.image_checks.proofs.Lists.{volumes_told}
use Rattle.image_checks.proofs.rows.triangles_fit.Goals as goal

pub returns : goal.returns
returns c = volumes_told c.args.bytes.now c.args.at c.args.n _ (and_next _ _ _ _ _ c.both.ensures c.volumes-z.ensures c.in_range.ensures)
