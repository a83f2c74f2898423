-- `arguments::tests::sides_fit` meets its contract. Assumes nothing.
use Rattle.lists.specs.Lists.{all}
use lib.ListN.{length}
use lib.Dec.{eqb, ltb}
use mathlib.Core.Bool.{◌&&◌}
use Rattle.judge.proofs.Joined.{and_next}
use mathlib.Core.Path.{refl}
use Rattle.arguments.proofs.tests.sides_fit.Goals as goal

pub returns : goal.returns
returns c = let A = c.args in
    and_next _ _ (ltb A.v A.n && all (λ s. ltb s 2) A.sides.now) _ (eqb (length A.sides.now) A.fan) c.both.ensures (and_next _ _ (ltb A.v A.n) _ _ c.both-z.ensures refl c.all_below.ensures) refl
