-- `feeding::open_reader` meets its contract. Assumes nothing.
use Rattle.feeding.proofs.Steps.{open_none, open_done}
use Rattle.feeding.proofs.open_reader.Goals as goal

-- `feeding::open_reader` meets its contract. Assumes nothing.
pub returns-then-reader-ne-SIZE : goal.returns-then-reader-ne-SIZE
returns-then-reader-ne-SIZE c = open_none _ c.if-reader-ne-SIZE.true

pub returns : goal.returns
returns c = open_done _ _ _ c.if-reader-ne-SIZE.false c.put_word.ensures c.put_word-2.ensures
