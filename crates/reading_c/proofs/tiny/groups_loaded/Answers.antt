-- `reading_c::tiny::groups_loaded` meets its contract: the groups are asked for on the fronts of seven loaded blocks. Assumes nothing.
use native.Mathlib.Omega.{arith}
use mathlib.Core.Path.{sym}
use lib.Seq.{length-take-le}
use Rattle.image.proofs.Loading.{sized_counts, fronts_are}
use Rattle.reading_c.proofs.Answering.{asked_on}
use Rattle.reading_c.specs.declared.Question.TheVariants.{Groups}
use Rattle.reading_c.proofs.tiny.groups_loaded.Goals as goal

-- `reading_c::tiny::groups_loaded` meets its contract: the groups are asked for on the fronts of seven loaded blocks. Assumes nothing.
pub word_at-p-requires : goal.word_at-p-requires
word_at-p-requires c = omega (arith, sized_counts _ c.requires.0)

pub word_at-t-requires : goal.word_at-t-requires
word_at-t-requires c = omega (arith, sized_counts _ c.requires.0)

pub word_at-e-requires : goal.word_at-e-requires
word_at-e-requires c = omega (arith, sized_counts _ c.requires.0)

pub word_at-b-requires : goal.word_at-b-requires
word_at-b-requires c = omega (arith, sized_counts _ c.requires.0)

pub load-requires : goal.load-requires
load-requires c = c.requires.2

pub slice_bounds-groups_in-end : goal.slice_bounds-groups_in-end
slice_bounds-groups_in-end c = omega (arith, c.word_at-p.ensures.0, c.requires.2.points_room, c.load.auto.points)

pub slice_bounds-groups_in-end-2 : goal.slice_bounds-groups_in-end-2
slice_bounds-groups_in-end-2 c = sym (length-take-le _ _ (slice_bounds-groups_in-end c))

pub slice_bounds-groups_in-end-3 : goal.slice_bounds-groups_in-end-3
slice_bounds-groups_in-end-3 c = omega (arith, c.word_at-p.ensures.0, c.requires.2.roots_room, c.load.auto.roots)

pub slice_bounds-groups_in-end-4 : goal.slice_bounds-groups_in-end-4
slice_bounds-groups_in-end-4 c = sym (length-take-le _ _ (slice_bounds-groups_in-end-3 c))

pub slice_bounds-groups_in-end-5 : goal.slice_bounds-groups_in-end-5
slice_bounds-groups_in-end-5 c = omega (arith, c.word_at-t.ensures.0, c.requires.2.corners_room, c.load.auto.corners)

pub slice_bounds-groups_in-end-6 : goal.slice_bounds-groups_in-end-6
slice_bounds-groups_in-end-6 c = sym (length-take-le _ _ (slice_bounds-groups_in-end-5 c))

pub slice_bounds-groups_in-end-7 : goal.slice_bounds-groups_in-end-7
slice_bounds-groups_in-end-7 c = omega (arith, c.word_at-t.ensures.0, c.requires.2.volumes_room, c.load.auto.volumes)

pub slice_bounds-groups_in-end-8 : goal.slice_bounds-groups_in-end-8
slice_bounds-groups_in-end-8 c = sym (length-take-le _ _ (slice_bounds-groups_in-end-7 c))

pub slice_bounds-groups_in-end-9 : goal.slice_bounds-groups_in-end-9
slice_bounds-groups_in-end-9 c = omega (arith, c.word_at-e.ensures.0, c.requires.2.ends_room, c.load.auto.ends)

pub slice_bounds-groups_in-end-10 : goal.slice_bounds-groups_in-end-10
slice_bounds-groups_in-end-10 c = sym (length-take-le _ _ (slice_bounds-groups_in-end-9 c))

pub slice_bounds-groups_in-end-11 : goal.slice_bounds-groups_in-end-11
slice_bounds-groups_in-end-11 c = omega (arith, c.word_at-e.ensures.0, c.requires.2.lengths_room, c.load.auto.lengths)

pub slice_bounds-groups_in-end-12 : goal.slice_bounds-groups_in-end-12
slice_bounds-groups_in-end-12 c = sym (length-take-le _ _ (slice_bounds-groups_in-end-11 c))

pub slice_bounds-groups_in-end-13 : goal.slice_bounds-groups_in-end-13
slice_bounds-groups_in-end-13 c = omega (arith, c.word_at-b.ensures.0, c.requires.2.outline_room, c.load.auto.outline)

pub slice_bounds-groups_in-end-14 : goal.slice_bounds-groups_in-end-14
slice_bounds-groups_in-end-14 c = sym (length-take-le _ _ (slice_bounds-groups_in-end-13 c))

pub groups_in-requires : goal.groups_in-requires
groups_in-requires c = (c.requires.1, omega arith)

pub returns : goal.returns
returns c = let A = c.args in asked_on (Groups A.v) _ _ _ _ _ _ c.requires.0 (fronts_are _ _ _ _ _ _ _ _ _ _ _ _ c.word_at-p.ensures.0 c.word_at-t.ensures.0 c.word_at-e.ensures.0 c.word_at-b.ensures.0 c.load.ensures) c.groups_in.ensures
