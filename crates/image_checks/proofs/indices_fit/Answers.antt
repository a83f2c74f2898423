-- `image_checks::indices_fit` meets its contract: the roots, the corners and two lists of ends. Assumes nothing.
use native.Mathlib.Omega.{arith}
use mathlib.Core.Path.{refl, ◌∙◌}
use Rattle.judge.proofs.Joined.{and_next}
use Rattle.image.proofs.Loading.{sized_counts, sized_loadable}
use Rattle.image_checks.proofs.Whole.{image_indices}
use Rattle.image_checks.proofs.indices_fit.Goals as goal

pub below-z-requires : goal.below-z-requires
below-z-requires c = (omega (arith, (sized_loadable _ c.requires).long, c.word_at-p.ensures.0, c.word_at-t.ensures.0, c.word_at-e.ensures.0, c.word_at-b.ensures.0), omega (arith, c.word_at-p.ensures.1))

pub corners_fit-requires : goal.corners_fit-requires
corners_fit-requires c = (omega (arith, (sized_loadable _ c.requires).long, c.word_at-p.ensures.0, c.word_at-t.ensures.0, c.word_at-e.ensures.0, c.word_at-b.ensures.0), omega (arith, c.word_at-p.ensures.1))

pub pairs_fit-requires : goal.pairs_fit-requires
pairs_fit-requires c = (omega (arith, (sized_loadable _ c.requires).long, c.word_at-p.ensures.0, c.word_at-t.ensures.0, c.word_at-e.ensures.0, c.word_at-b.ensures.0), omega (arith, c.word_at-p.ensures.1))

pub pairs_fit-requires-2 : goal.pairs_fit-requires-2
pairs_fit-requires-2 c = (omega (arith, (sized_loadable _ c.requires).long, c.word_at-p.ensures.0, c.word_at-t.ensures.0, c.word_at-e.ensures.0, c.word_at-b.ensures.0), omega (arith, c.word_at-p.ensures.1))

pub returns : goal.returns
returns c = and_next _ _ _ _ _ c.both.ensures (and_next _ _ _ _ _ c.both-z-2.ensures c.both-z.ensures refl) refl ∙ image_indices c.args.bytes.now _ _ _ c.word_at-p.ensures.0 c.word_at-t.ensures.0 c.word_at-e.ensures.0 _ c.word_at-b.ensures.0 _ _ _ _ c.below-z.ensures c.corners_fit.ensures c.pairs_fit.ensures c.pairs_fit-2.ensures

-- `image_checks::indices_fit` meets its contract: the roots, the corners and two lists of ends. Assumes nothing.
pub word_at-p-requires : goal.word_at-p-requires
word_at-p-requires c = omega (arith, sized_counts _ c.requires)

pub word_at-t-requires : goal.word_at-t-requires
word_at-t-requires c = omega (arith, sized_counts _ c.requires)

pub word_at-e-requires : goal.word_at-e-requires
word_at-e-requires c = omega (arith, sized_counts _ c.requires)

pub word_at-b-requires : goal.word_at-b-requires
word_at-b-requires c = omega (arith, sized_counts _ c.requires)
