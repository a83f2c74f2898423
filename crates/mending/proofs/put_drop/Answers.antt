-- `mending::put_drop` meets its contract: four pieces, one behind the other. Assumes nothing.
use Rattle.mending.proofs.Lines.{drop_written}
use Rattle.mending.proofs.put_drop.Goals as goal

pub returns : goal.returns
returns c = drop_written c.args.place c.put_text-named.ensures c.put_byte-space.ensures c.put_number-placed.ensures c.put_text.ensures
