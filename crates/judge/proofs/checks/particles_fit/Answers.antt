-- `judge::checks::particles_fit` meets its contract: it asks the particles column by column. Assumes nothing.
use Rattle.std.proofs.Common.{sym, ◌∙◌}
use Rattle.columns.proofs.Rows.{all_tab}
use Rattle.model.specs.Valid.{particle_ok}
use Rattle.mesh.specs.At.{particle_row, particles_at}
use Rattle.judge.proofs.Wide.{and_told, all_alike}
use Rattle.judge.proofs.Checked.{particle_tested}
use Rattle.judge.proofs.checks.particles_fit.Goals as goal

pub returns : goal.returns
unfolding particles_at
returns c = (and_told _ _ _ _ _ _ c.both.ensures (and_told _ _ _ _ _ _ c.both-z-7.ensures (and_told _ _ _ _ _ _ c.both-z-6.ensures (and_told _ _ _ _ _ _ c.both-z-5.ensures (and_told _ _ _ _ _ _ c.both-z-4.ensures (and_told _ _ _ _ _ _ c.both-z-3.ensures (and_told _ _ _ _ _ _ c.both-z-2.ensures (and_told _ _ _ _ _ _ c.both-z.ensures c.in_range-z.ensures c.in_range.ensures) c.in_range-2.ensures) c.in_range-3.ensures) c.in_range-4.ensures) c.finite.ensures) c.in_range-5.ensures) c.in_range-6.ensures) c.flags.ensures) ∙ all_alike _ _ _ (particle_tested _ _ _ _) ∙ sym (all_tab particle_ok _ (particle_row _ _ _ _))
