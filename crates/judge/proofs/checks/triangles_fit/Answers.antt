-- `judge::checks::triangles_fit` meets its contract: it asks the triangles column by column. Assumes nothing.
use Rattle.std.proofs.Common.{sym, ◌∙◌}
use Rattle.columns.proofs.Rows.{all_tab}
use Rattle.model.specs.Valid.{triangle_ok}
use Rattle.mesh.specs.At.{triangle_row, triangles_at}
use Rattle.judge.proofs.Wide.{and_told, all_alike}
use Rattle.judge.proofs.Checked.{triangle_tested}
use Rattle.judge.proofs.checks.triangles_fit.Goals as goal

pub returns : goal.returns
unfolding triangles_at
returns c = λ corners. (and_told _ _ _ _ _ _ c.both.ensures c.volumes-z.ensures c.in_range.ensures) ∙ all_alike _ _ _ (triangle_tested _ _ corners _) ∙ sym (all_tab triangle_ok _ (triangle_row _ _ corners _))
