-- `differences::lines::put_two` meets its contract: one number behind the other. Assumes nothing.
use Rattle.differences.proofs.Writing.{two_fields}
use borrow.Author.Rules.{rules}
use Rattle.differences.proofs.lines.put_two.Goals as goal

pub returns : goal.returns
returns c = two_fields _ _ c.put_plain-first.ensures c.put_plain.ensures
