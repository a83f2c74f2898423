-- `differing::write_differences` meets its contract: the lines, their number, the end. Assumes nothing.
use Rattle.differing.proofs.Wholes.{text_written}
use mathlib.Core.Path.{◌∙◌}
use Rattle.differing.proofs.write_differences.Goals as goal

-- `differing::write_differences` meets its contract: the lines, their number, the end. Assumes nothing.
pub put_all-l-requires : goal.put_all-l-requires
put_all-l-requires c = c.requires

pub shape_of-out : goal.shape_of-out
shape_of-out c = c.finish.auto.out ∙ (c.put_byte-end.auto.out ∙ (c.put_number-number.auto.out ∙ c.put_all-l.auto.out))

pub returns : goal.returns
returns c = text_written _ c.put_all-l.ensures c.put_number-number.ensures c.put_byte-end.ensures c.finish.ensures (c.put_byte-end.auto.out ∙ (c.put_number-number.auto.out ∙ c.put_all-l.auto.out))
