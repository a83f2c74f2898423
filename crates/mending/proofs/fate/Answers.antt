-- `mending::fate` meets its contract. Assumes nothing.
use mathlib.Core.Path.{◌∙◌}
use Rattle.mending.specs.Work.{row_code}
use Rattle.mending.proofs.fate.Goals as goal

pub returns-then-three : goal.returns-then-three
returns-then-three c = c.fate_three.ensures ∙ rw c.if-three.true

pub returns-else-three : goal.returns-else-three
unfolding row_code
returns-else-three c = c.fate_two.ensures ∙ rw c.if-three.false
