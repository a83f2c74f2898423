-- `sheet_c::writing::write_fields` meets its contract: the columns of particles and the blade are read, and the sheet is written. Assumes nothing.
use native.Mathlib.Omega.{arith}
use mathlib.Core.Path.{refl, sym}
use lib.Seq.{length-take-le}
use Rattle.sheet_c.proofs.Fielding.{fields_written}
use Rattle.sheet_c.proofs.writing.write_fields.Goals as goal

pub signed_into-requires : goal.signed_into-requires
signed_into-requires c = (omega (arith, c.word_at-p.ensures.0, c.requires.long, c.requires.particles), omega (arith, c.word_at-p.ensures.0, c.requires.long, c.requires.particles))

pub signed_into-requires-2 : goal.signed_into-requires-2
signed_into-requires-2 c = (omega (arith, c.word_at-p.ensures.0, c.requires.long, c.requires.particles), omega (arith, c.word_at-p.ensures.0, c.requires.long, c.requires.particles))

pub words_into-requires : goal.words_into-requires
words_into-requires c = (omega (arith, c.word_at-p.ensures.0, c.requires.long, c.requires.particles), omega (arith, c.word_at-p.ensures.0, c.requires.long, c.requires.particles))

pub signed_into-requires-3 : goal.signed_into-requires-3
signed_into-requires-3 c = (omega (arith, c.requires.long), omega arith)

pub slice_bounds-write_elements-end : goal.slice_bounds-write_elements-end
slice_bounds-write_elements-end c = sym (length-take-le _ _ ((omega (arith, c.word_at-p.ensures.0, c.requires.long, c.requires.particles))))

pub slice_bounds-write_elements-end-2 : goal.slice_bounds-write_elements-end-2
slice_bounds-write_elements-end-2 c = sym (length-take-le _ _ ((omega (arith, c.word_at-p.ensures.0, c.requires.long, c.requires.particles))))

pub slice_bounds-write_elements-end-3 : goal.slice_bounds-write_elements-end-3
slice_bounds-write_elements-end-3 c = sym (length-take-le _ _ ((omega (arith, c.word_at-p.ensures.0, c.requires.long, c.requires.particles))))

pub write_elements-requires : goal.write_elements-requires
write_elements-requires c = c.requires

pub shape_of-out : goal.shape_of-out
shape_of-out c = c.write_elements.auto.out

pub returns : goal.returns
returns c = fields_written c.args.fields.now c.requires _ c.signed_into.new.out c.signed_into-2.new.out c.words_into.new.out c.signed_into-3.new.out c.word_at-p.ensures.0 _ refl c.signed_into.ensures c.signed_into-2.ensures c.words_into.ensures c.signed_into-3.ensures c.signed_into-3.auto.out _ _ _ c.write_elements.ensures
