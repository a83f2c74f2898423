-- `differences::lines::put_four` meets its contract: one coordinate behind the other. Assumes nothing.
use Rattle.differences.proofs.Writing.{two_fields, third_field, fourth_field}
use borrow.Author.Rules.{rules}
use Rattle.differences.proofs.lines.put_four.Goals as goal

pub returns : goal.returns
returns c = fourth_field _ _ _ _ (third_field _ _ _ (two_fields _ _ c.put_coord-first.ensures c.put_coord-two.ensures) c.put_coord-three.ensures) c.put_coord.ensures
