-- `judge::checks::judge` meets its contract: the sizes first, and then the other two refusals. Assumes nothing.
use Rattle.std.proofs.Common.{sym, ◌∙◌}
use borrow.Author.Tests.{not-false}
use Rattle.mesh.specs.Given.{given, mesh_of}
use Rattle.judge.proofs.Joined.{sizes_told}
use Rattle.judge.proofs.Accepted.{input_fits}
use Rattle.judge.proofs.Refusals.{fault_sized, fault_unsized}
use mathlib.Core.Path.{ap}
use mathlib.Core.Bool.{not}
use Rattle.judge.proofs.checks.judge.Goals as goal

pub returns-then-not-fit : goal.returns-then-not-fit
returns-then-not-fit c = fault_unsized (given c.args.points.now c.args.roots.now c.args.corners.now c.args.volumes.now c.args.ends.now c.args.lengths.now c.args.outline.now) _ c.sizes_fit-fit.ensures (ap not c.if-not-fit.true)

pub judge_sized-requires : goal.judge_sized-requires
judge_sized-requires c = input_fits (given c.args.points.now c.args.roots.now c.args.corners.now c.args.volumes.now c.args.ends.now c.args.lengths.now c.args.outline.now) (sizes_told _ _ _ _ _ _ _ (sym c.sizes_fit-fit.ensures ∙ not-false _ (ap not c.if-not-fit.false)))

pub returns : goal.returns
unfolding mesh_of
returns c = c.judge_sized.ensures ∙ fault_sized (given c.args.points.now c.args.roots.now c.args.corners.now c.args.volumes.now c.args.ends.now c.args.lengths.now c.args.outline.now) _ c.sizes_fit-fit.ensures (ap not c.if-not-fit.false)
