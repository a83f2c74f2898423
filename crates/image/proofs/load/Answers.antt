-- `image::load` meets its contract: seven blocks. Assumes nothing.
use Rattle.image.proofs.Fronts.{loaded}
use native.Mathlib.Omega.{arith}
use Rattle.image.proofs.load.Goals as goal

pub words_into-requires-3 : goal.words_into-requires-3
words_into-requires-3 c = (omega (arith, c.requires.long, c.word_at-b.ensures, c.word_at-e.ensures, c.word_at-t.ensures, c.word_at-p.ensures), omega (arith, c.requires.ends_room, c.word_at-b.ensures, c.word_at-e.ensures, c.word_at-t.ensures, c.word_at-p.ensures))

pub numbers_into-requires-3 : goal.numbers_into-requires-3
numbers_into-requires-3 c = (omega (arith, c.requires.long, c.word_at-b.ensures, c.word_at-e.ensures, c.word_at-t.ensures, c.word_at-p.ensures), omega (arith, c.requires.lengths_room, c.word_at-b.ensures, c.word_at-e.ensures, c.word_at-t.ensures, c.word_at-p.ensures))

pub words_into-requires-4 : goal.words_into-requires-4
words_into-requires-4 c = (omega (arith, c.requires.long, c.word_at-b.ensures, c.word_at-e.ensures, c.word_at-t.ensures, c.word_at-p.ensures), omega (arith, c.requires.outline_room, c.word_at-b.ensures, c.word_at-e.ensures, c.word_at-t.ensures, c.word_at-p.ensures))

pub returns : goal.returns
returns c = loaded _ _ _ _ _ _ _ _ _ _ _ _ c.word_at-p.ensures.0 c.word_at-t.ensures.0 c.word_at-e.ensures.0 c.word_at-b.ensures.0 (record { points_are = c.numbers_into.ensures; roots_are = c.words_into.ensures; corners_are = c.words_into-2.ensures; volumes_are = c.numbers_into-2.ensures; ends_are = c.words_into-3.ensures; lengths_are = c.numbers_into-3.ensures; outline_are = c.words_into-4.ensures })
