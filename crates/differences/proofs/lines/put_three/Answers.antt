-- `differences::lines::put_three` meets its contract: two numbers, then a third. Assumes nothing.
use Rattle.differences.proofs.Writing.{third_field}
use borrow.Author.Rules.{rules}
use Rattle.differences.proofs.lines.put_three.Goals as goal

pub returns : goal.returns
returns c = third_field _ _ _ c.put_two-two.ensures c.put_plain.ensures
