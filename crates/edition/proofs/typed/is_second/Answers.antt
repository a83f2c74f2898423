-- `edition::typed::is_second` meets its contract. Assumes nothing.
use Rattle.edition.proofs.typed.is_second.Goals as goal

pub returns : goal.returns
returns c = rw c.field.ensures.0
