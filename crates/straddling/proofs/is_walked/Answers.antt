-- `straddling::is_walked` meets its contract. Assumes nothing.
use mathlib.Core.Logic.{inl, inr, ⊎_elim}
use mathlib.Core.Path.{sym, ◌∙◌}
use Rattle.lists.proofs.Stores.{stored}
use borrow.Author.Rules.{rules}
use native.Mathlib.Omega.{arith}
use Rattle.straddling.proofs.is_walked.Goals as goal

pub returns : goal.returns
returns c = λ y h. let A = c.args in ⊎_elim (λ w. inl w.0) (λ w. inr (sym w.1 ∙ h)) (stored A.walked.now A.x 1 y (omega (arith, c.if-x-walked.false)))
