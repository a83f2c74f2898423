-- `marks::particles::mark` meets its contract. A place is stored to, or there is none. Assumes nothing.
use Rattle.marks.proofs.MarkLaws.{marked_one, marked_out}
use borrow.Author.Rules.{rules}
use Rattle.marks.proofs.particles.mark.Goals as goal

pub returns-then-w-marks : goal.returns-then-w-marks
returns-then-w-marks c = marked_one _ _ c.if-w-marks.true

pub returns-else-w-marks : goal.returns-else-w-marks
returns-else-w-marks c = marked_out _ _ c.if-w-marks.false
