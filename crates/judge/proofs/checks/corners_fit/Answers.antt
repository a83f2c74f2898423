-- `judge::checks::corners_fit` meets its contract: the word of the triangles so far tells of the corners of each. Assumes nothing.
use Rattle.std.proofs.Common.{sym, ◌∙◌, arith}
use Rattle.columns.proofs.Rows.{all_tab}
use Rattle.model.specs.Valid.{corners_ok}
use Rattle.mesh.specs.At.{triangle_row, triangles_at}
use Rattle.judge.specs.Told.{fine}
use Rattle.judge.proofs.Wide.{none_told, more_told, end_told}
use Rattle.judge.proofs.Checked.{corners_tested}
use Rattle.judge.proofs.Fine.{or_fine}
use Rattle.judge.proofs.checks.corners_fit.Goals as goal

pub loop-i-init : goal.loop-i-init
unfolding fine
loop-i-init c = (λ volumes. none_told _, omega arith)

pub loop-i-preserved : goal.loop-i-preserved
loop-i-preserved c = (λ volumes. more_told _ _ _ _ _ (or_fine _ _) (c.loop-i.invariant.0 volumes) (c.three-fault.ensures ∙ corners_tested _ _ _ _ volumes _), omega arith)

pub returns : goal.returns
unfolding fine triangles_at
returns c = λ volumes. end_told _ _ _ _ (c.loop-i.invariant.0 volumes) c.loop-i.invariant.1 c.loop-i-test.false ∙ sym (all_tab (corners_ok _) _ (triangle_row _ _ _ volumes))
