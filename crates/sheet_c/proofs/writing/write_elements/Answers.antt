-- `sheet_c::writing::write_elements` meets its contract: six columns are read, and the sheet is written. Assumes nothing.
use native.Mathlib.Omega.{arith}
use mathlib.Core.Path.{sym}
use lib.Seq.{length-take-le}
use Rattle.sheet_c.proofs.Fielding.{elements_written}
use Rattle.sheet_c.proofs.writing.write_elements.Goals as goal

pub words_into-requires : goal.words_into-requires
words_into-requires c = (omega (arith, c.word_at-t.ensures.0, c.word_at-e.ensures.0, c.word_at.ensures.0, c.requires.long, c.requires.particles, c.requires.triangles, c.requires.edges), omega (arith, c.word_at-t.ensures.0, c.word_at-e.ensures.0, c.word_at.ensures.0, c.requires.long, c.requires.particles, c.requires.triangles, c.requires.edges))

pub words_into-requires-2 : goal.words_into-requires-2
words_into-requires-2 c = (omega (arith, c.word_at-t.ensures.0, c.word_at-e.ensures.0, c.word_at.ensures.0, c.requires.long, c.requires.particles, c.requires.triangles, c.requires.edges), omega (arith, c.word_at-t.ensures.0, c.word_at-e.ensures.0, c.word_at.ensures.0, c.requires.long, c.requires.particles, c.requires.triangles, c.requires.edges))

pub words_into-requires-3 : goal.words_into-requires-3
words_into-requires-3 c = (omega (arith, c.word_at-t.ensures.0, c.word_at-e.ensures.0, c.word_at.ensures.0, c.requires.long, c.requires.particles, c.requires.triangles, c.requires.edges), omega (arith, c.word_at-t.ensures.0, c.word_at-e.ensures.0, c.word_at.ensures.0, c.requires.long, c.requires.particles, c.requires.triangles, c.requires.edges))

pub words_into-requires-4 : goal.words_into-requires-4
words_into-requires-4 c = (omega (arith, c.word_at-t.ensures.0, c.word_at-e.ensures.0, c.word_at.ensures.0, c.requires.long, c.requires.particles, c.requires.triangles, c.requires.edges), omega (arith, c.word_at-t.ensures.0, c.word_at-e.ensures.0, c.word_at.ensures.0, c.requires.long, c.requires.particles, c.requires.triangles, c.requires.edges))

pub words_into-requires-5 : goal.words_into-requires-5
words_into-requires-5 c = (omega (arith, c.word_at-t.ensures.0, c.word_at-e.ensures.0, c.word_at.ensures.0, c.requires.long, c.requires.particles, c.requires.triangles, c.requires.edges), omega (arith, c.word_at-t.ensures.0, c.word_at-e.ensures.0, c.word_at.ensures.0, c.requires.long, c.requires.particles, c.requires.triangles, c.requires.edges))

pub words_into-requires-6 : goal.words_into-requires-6
words_into-requires-6 c = (omega (arith, c.word_at-t.ensures.0, c.word_at-e.ensures.0, c.word_at.ensures.0, c.requires.long, c.requires.particles, c.requires.triangles, c.requires.edges), omega (arith, c.word_at-t.ensures.0, c.word_at-e.ensures.0, c.word_at.ensures.0, c.requires.long, c.requires.particles, c.requires.triangles, c.requires.edges))

pub slice_bounds-write-end : goal.slice_bounds-write-end
slice_bounds-write-end c = sym (length-take-le _ _ ((omega (arith, c.word_at-t.ensures.0, c.word_at-e.ensures.0, c.word_at.ensures.0, c.requires.long, c.requires.particles, c.requires.triangles, c.requires.edges))))

pub slice_bounds-write-end-2 : goal.slice_bounds-write-end-2
slice_bounds-write-end-2 c = sym (length-take-le _ _ ((omega (arith, c.word_at-t.ensures.0, c.word_at-e.ensures.0, c.word_at.ensures.0, c.requires.long, c.requires.particles, c.requires.triangles, c.requires.edges))))

pub slice_bounds-write-end-3 : goal.slice_bounds-write-end-3
slice_bounds-write-end-3 c = sym (length-take-le _ _ ((omega (arith, c.word_at-t.ensures.0, c.word_at-e.ensures.0, c.word_at.ensures.0, c.requires.long, c.requires.particles, c.requires.triangles, c.requires.edges))))

pub slice_bounds-write-end-4 : goal.slice_bounds-write-end-4
slice_bounds-write-end-4 c = sym (length-take-le _ _ ((omega (arith, c.word_at-t.ensures.0, c.word_at-e.ensures.0, c.word_at.ensures.0, c.requires.long, c.requires.particles, c.requires.triangles, c.requires.edges))))

pub slice_bounds-write-end-5 : goal.slice_bounds-write-end-5
slice_bounds-write-end-5 c = sym (length-take-le _ _ ((omega (arith, c.word_at-t.ensures.0, c.word_at-e.ensures.0, c.word_at.ensures.0, c.requires.long, c.requires.particles, c.requires.triangles, c.requires.edges))))

pub slice_bounds-write-end-6 : goal.slice_bounds-write-end-6
slice_bounds-write-end-6 c = sym (length-take-le _ _ ((omega (arith, c.word_at-t.ensures.0, c.word_at-e.ensures.0, c.word_at.ensures.0, c.requires.long, c.requires.particles, c.requires.triangles, c.requires.edges))))

pub shape_of-out : goal.shape_of-out
shape_of-out c = c.write.auto.out

pub returns : goal.returns
returns c = let A = c.args in elements_written A.fields.now _ _ _ A.x.now A.y.now A.pinned.now A.blade.now _ _ _ _ _ _ _ _ _ c.word_at.ensures.0 c.word_at-t.ensures.0 c.word_at-e.ensures.0 (record { t0 = c.words_into.ensures; t1 = c.words_into-2.ensures; t2 = c.words_into-3.ensures; e0 = c.words_into-4.ensures; e1 = c.words_into-5.ensures; structural = c.words_into-6.ensures }) c.write.ensures
