-- `judge::tests::two_named` meets its contract: three tests, as the definition has them. Assumes nothing.
use Rattle.std.proofs.Common.{refl, ◌∙◌}
use Rattle.judge.proofs.Joined.{and_next, two_named}
use Rattle.judge.proofs.tests.two_named.Goals as goal

pub returns : goal.returns
returns c = and_next _ _ _ _ _ c.both.ensures c.both-z.ensures refl ∙ two_named _ _ _
