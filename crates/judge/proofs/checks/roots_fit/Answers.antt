-- `judge::checks::roots_fit` meets its contract: it asks the column of the roots. Assumes nothing.
use Rattle.std.proofs.Common.{sym, ◌∙◌}
use Rattle.columns.proofs.Rows.{all_tab}
use Rattle.model.specs.Valid.{root_ok}
use Rattle.mesh.specs.At.{particle_row, particles_at}
use Rattle.judge.proofs.Wide.{all_alike}
use Rattle.judge.proofs.Checked.{root_tested}
use Rattle.judge.proofs.checks.roots_fit.Goals as goal

pub returns : goal.returns
unfolding particles_at
returns c = λ points. c.below.ensures ∙ all_alike _ _ _ (root_tested _ _ _ points _) ∙ sym (all_tab (root_ok _) _ (particle_row _ _ points _))
