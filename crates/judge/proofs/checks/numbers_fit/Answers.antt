-- `judge::checks::numbers_fit` meets its contract: the numbers of three lists. Assumes nothing.
use Rattle.std.proofs.Common.{refl, ◌∙◌}
use Rattle.mesh.specs.Given.{given}
use Rattle.judge.proofs.Joined.{and_next}
use Rattle.judge.proofs.Checked.{numbers_told}
use Rattle.judge.proofs.checks.numbers_fit.Goals as goal

pub returns : goal.returns
returns c = and_next _ _ _ _ _ c.both.ensures c.both-z.ensures refl ∙ numbers_told c.args.k (given c.args.points.now c.args.roots.now c.args.corners.now c.args.volumes.now c.args.ends.now c.args.lengths.now c.args.outline.now) _ _ _ c.particles_fit-z.ensures c.triangles_fit.ensures c.edges_fit.ensures
