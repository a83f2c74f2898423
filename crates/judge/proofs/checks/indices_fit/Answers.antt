-- `judge::checks::indices_fit` meets its contract: the roots, the corners and two lists of ends. Assumes nothing.
use Rattle.std.proofs.Common.{refl, ◌∙◌, arith}
use Rattle.mesh.specs.Given.{given}
use Rattle.judge.proofs.Joined.{and_next}
use Rattle.judge.proofs.Checked.{indices_told}
use Rattle.judge.proofs.checks.indices_fit.Goals as goal

pub pairs_fit-requires : goal.pairs_fit-requires
pairs_fit-requires c = (c.requires.ends, omega arith, omega arith)

pub pairs_fit-requires-2 : goal.pairs_fit-requires-2
pairs_fit-requires-2 c = (c.requires.outline, omega arith, omega arith)

pub returns : goal.returns
returns c = and_next _ _ _ _ _ c.both.ensures (and_next _ _ _ _ _ c.both-z-2.ensures c.both-z.ensures refl) refl ∙ indices_told c.args.k (given c.args.points.now c.args.roots.now c.args.corners.now c.args.volumes.now c.args.ends.now c.args.lengths.now c.args.outline.now) _ _ _ _ c.roots_fit-z.ensures c.corners_fit.ensures c.pairs_fit.ensures c.pairs_fit-2.ensures
