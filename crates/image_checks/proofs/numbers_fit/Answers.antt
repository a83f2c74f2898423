-- `image_checks::numbers_fit` meets its contract: the numbers of three lists. Assumes nothing.
use native.Mathlib.Omega.{arith}
use mathlib.Core.Path.{refl, ◌∙◌}
use Rattle.judge.proofs.Joined.{and_next}
use Rattle.image.proofs.Loading.{sized_counts, sized_loadable}
use Rattle.image_checks.proofs.Whole.{image_numbers}
use Rattle.image_checks.proofs.numbers_fit.Goals as goal

pub particles_fit-z-requires : goal.particles_fit-z-requires
particles_fit-z-requires c = omega (arith, (sized_loadable _ c.requires).long, c.word_at-p.ensures.0, c.word_at-t.ensures.0, c.word_at-e.ensures.0)

pub triangles_fit-requires : goal.triangles_fit-requires
triangles_fit-requires c = omega (arith, (sized_loadable _ c.requires).long, c.word_at-p.ensures.0, c.word_at-t.ensures.0, c.word_at-e.ensures.0)

pub edges_fit-requires : goal.edges_fit-requires
edges_fit-requires c = omega (arith, (sized_loadable _ c.requires).long, c.word_at-p.ensures.0, c.word_at-t.ensures.0, c.word_at-e.ensures.0)

pub returns : goal.returns
returns c = and_next _ _ _ _ _ c.both.ensures c.both-z.ensures refl ∙ image_numbers c.args.bytes.now _ _ _ c.word_at-p.ensures.0 c.word_at-t.ensures.0 c.word_at-e.ensures.0 _ _ _ c.particles_fit-z.ensures c.triangles_fit.ensures c.edges_fit.ensures

-- `image_checks::numbers_fit` meets its contract: the numbers of three lists. Assumes nothing.
pub word_at-p-requires : goal.word_at-p-requires
word_at-p-requires c = omega (arith, sized_counts _ c.requires)

pub word_at-t-requires : goal.word_at-t-requires
word_at-t-requires c = omega (arith, sized_counts _ c.requires)

pub word_at-e-requires : goal.word_at-e-requires
word_at-e-requires c = omega (arith, sized_counts _ c.requires)
