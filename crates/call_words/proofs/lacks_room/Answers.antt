-- `call_words::lacks_room` meets its contract. Assumes nothing.
use Rattle.call_words.proofs.lacks_room.Goals as goal

pub returns : goal.returns
returns c = c.both.ensures
