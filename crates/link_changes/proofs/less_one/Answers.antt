-- `link_changes::less_one` meets its contract: by the two branches. Assumes nothing.
use Rattle.link_changes.proofs.Dropped.{less_above, less_other}
use borrow.Author.Rules.{rules}
use Rattle.link_changes.proofs.less_one.Goals as goal

pub returns-then-y-own : goal.returns-then-y-own
returns-then-y-own c = less_above _ _ c.if-y-own.true

pub returns-else-y-own : goal.returns-else-y-own
returns-else-y-own c = less_other _ _ c.if-y-own.false
