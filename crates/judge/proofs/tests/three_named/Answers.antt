-- `judge::tests::three_named` meets its contract: two names, and a third that is neither. Assumes nothing.
use Rattle.std.proofs.Common.{refl, ◌∙◌}
use Rattle.judge.proofs.Joined.{and_next, three_named}
use Rattle.judge.proofs.tests.three_named.Goals as goal

pub returns : goal.returns
returns c = and_next _ _ _ _ _ c.both.ensures (and_next _ _ _ _ _ c.both-z-2.ensures c.both-z.ensures refl) c.two_named.ensures ∙ three_named _ _ _ _
