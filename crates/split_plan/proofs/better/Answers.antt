-- `split_plan::better` meets its contract. By the test of the scores. Assumes nothing.
use mathlib.Core.Bool.{Bool}
use mathlib.Core.Path.{sym, ap}
use Rattle.model.specs.Split.{Best}
use Rattle.lists.specs.Lists.{pick}
use Rattle.split_plan.specs.Answers.{best_is}
use Rattle.split_plan.proofs.better.Goals as goal

-- `split_plan::better` meets its contract. By the test of the scores. Assumes nothing.
pub returns-then-b-s : goal.returns-then-b-s
returns-then-b-s c = let A = c.args in
    let new : Best = record { score = A.s; group = A.g } in
    sym (ap (λ (t : Bool). pick t new (best_is A.b)) c.if-b-s.true)

pub returns : goal.returns
returns c = let A = c.args in
    let new : Best = record { score = A.s; group = A.g } in
    sym (ap (λ (t : Bool). pick t new (best_is A.b)) c.if-b-s.false)
