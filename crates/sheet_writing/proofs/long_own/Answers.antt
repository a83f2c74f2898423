-- `sheet_writing::long_own` meets its contract. Assumes nothing.
use mathlib.Core.Path.{ap}
use lib.Dec.{ltb}
use Rattle.sheet_writing.proofs.long_own.Goals as goal

pub list_outline-requires : goal.list_outline-requires
list_outline-requires c = c.requires

pub returns : goal.returns
returns c = ap (ltb 2048) c.list_outline.ensures.count
