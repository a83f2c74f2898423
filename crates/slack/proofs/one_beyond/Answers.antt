-- `slack::one_beyond` meets its contract: by cases of the first particle. Assumes nothing.
use Rattle.slack.proofs.SlackLaws.{first_beyond, second_beyond}
use Rattle.slack.proofs.one_beyond.Goals as goal

-- `slack::one_beyond` meets its contract: by cases of the first particle. Assumes nothing.
pub returns-then-from-x : goal.returns-then-from-x
returns-then-from-x c = first_beyond _ _ _ c.if-from-x.true

pub returns : goal.returns
returns c = second_beyond _ _ _ c.if-from-x.false
