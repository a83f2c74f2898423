-- `cut::facets::slackens` meets its contract. Behind the split of a snapped end alone, if it made copies. Assumes nothing.
use mathlib.Core.Path.{sym, ap}
use Rattle.cut.specs.declared.facets.Parting.{Parting}
use Rattle.cut.specs.Running.{slackens?}
use borrow.Author.Rules.{rules}
use Rattle.cut.proofs.facets.slackens.Goals as goal

pub returns-in-Free : goal.returns-in-Free
returns-in-Free c = let A = c.args in ap (λ (w : Parting). slackens? w A.before A.after) (sym c.in-Free.is)

pub returns-in-Blade : goal.returns-in-Blade
returns-in-Blade c = let A = c.args in ap (λ (w : Parting). slackens? w A.before A.after) (sym c.in-Blade.is)

pub returns-in-Snapped : goal.returns-in-Snapped
returns-in-Snapped c = let A = c.args in ap (λ (w : Parting). slackens? w A.before A.after) (sym c.in-Snapped.is)
