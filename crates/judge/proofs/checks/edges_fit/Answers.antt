-- `judge::checks::edges_fit` meets its contract: it asks the edges column by column. Assumes nothing.
use Rattle.std.proofs.Common.{sym, ◌∙◌}
use Rattle.columns.proofs.Rows.{all_tab}
use Rattle.model.specs.Valid.{edge_ok}
use Rattle.mesh.specs.At.{edge_row, edges_at}
use Rattle.judge.proofs.Wide.{and_told, all_alike}
use Rattle.judge.proofs.Checked.{edge_tested}
use Rattle.judge.proofs.checks.edges_fit.Goals as goal

pub returns : goal.returns
unfolding edges_at
returns c = (and_told _ _ _ _ _ _ c.both.ensures (and_told _ _ _ _ _ _ c.both-z-4.ensures (and_told _ _ _ _ _ _ c.both-z-3.ensures (and_told _ _ _ _ _ _ c.both-z-2.ensures (and_told _ _ _ _ _ _ c.both-z.ensures c.flags-z.ensures c.flags.ensures) c.lengths.ensures) c.lengths-2.ensures) c.in_range.ensures) c.in_range-2.ensures) ∙ all_alike _ _ _ (edge_tested _ _ _ _) ∙ sym (all_tab edge_ok _ (edge_row _ _ _ _))
