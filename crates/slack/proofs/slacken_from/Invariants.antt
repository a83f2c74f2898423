-- `slack::slacken_from` meets its contract. The invariant: the edges so far are seen to. Assumes nothing.
use Rattle.slack.proofs.SlackLaws.{Slackening}
use Prim.Native.Nat.{◌≤◌, ◌-◌}
use Rattle.slack.proofs.slacken_from.Given as goal

-- `slack::slacken_from` meets its contract. The invariant: the edges so far are seen to. Assumes nothing.
abbrev pub invariant-loop-j : goal.invariant-loop-j
invariant-loop-j l = (l.j ≤ l.e) × Slackening l.from l.j l.ends l.initial.lengths l.lengths
