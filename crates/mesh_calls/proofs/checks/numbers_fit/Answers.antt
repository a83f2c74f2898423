-- `mesh_calls::checks::numbers_fit` meets its contract. Assumes nothing.
use mathlib.Core.Path.{sym, ap, ◌∙◌}
use borrow.Author.Rules.{rules}
use Rattle.judge.proofs.Joined.{and_next}
use Rattle.mesh_calls.specs.Jobs.{job_numbers}
use Rattle.mesh_calls.proofs.checks.numbers_fit.Goals as goal

pub returns-in-Straddlers : goal.returns-in-Straddlers
returns-in-Straddlers c = sym (ap job_numbers c.in-Straddlers.is)

pub returns-in-Split : goal.returns-in-Split
returns-in-Split c = sym (ap job_numbers c.in-Split.is)

pub returns-in-Cut : goal.returns-in-Cut
returns-in-Cut c = and_next _ _ _ _ _ c.both.ensures c.point_fits.ensures c.point_fits-in-Cut.ensures ∙ sym (ap job_numbers c.in-Cut.is)

pub returns-in-Crack : goal.returns-in-Crack
returns-in-Crack c = sym (ap job_numbers c.in-Crack.is)
