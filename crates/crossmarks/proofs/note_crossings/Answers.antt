-- `crossmarks::note_crossings` meets its contract. Assumes nothing.
use native.Mathlib.Omega.{arith}
use borrow.Author.Rules.{rules}
use Rattle.crossmarks.proofs.note_crossings.Goals as goal

pub read_offsets-requires : goal.read_offsets-requires
read_offsets-requires c =
    let Y = c.requires in
    (omega (arith, Y.rooms.points, Y.counts.particles), omega (arith, Y.rooms.few_particles, Y.counts.particles))

pub note_elements-requires : goal.note_elements-requires
note_elements-requires c = (c.requires, c.read_offsets.ensures)

pub shape_of-log : goal.shape_of-log
shape_of-log c = c.note_elements.auto.log

pub returns : goal.returns
returns c = c.note_elements.ensures
