-- `mesh_replies::placing::image_counts` meets its contract: the first four words. Assumes nothing.
use native.Mathlib.Omega.{arith}
use Rattle.image.proofs.Loading.{sized_counts}
use Rattle.mesh_replies.proofs.Places.{counts_read}
use Rattle.mesh_replies.proofs.placing.image_counts.Goals as goal

pub returns : goal.returns
returns c = counts_read _ _ _ _ _ c.word_at.ensures.0 c.word_at-2.ensures.0 c.word_at-3.ensures.0 c.word_at-4.ensures.0

-- `mesh_replies::placing::image_counts` meets its contract: the first four words. Assumes nothing.
pub word_at-requires : goal.word_at-requires
word_at-requires c = omega (arith, sized_counts _ c.requires)

pub word_at-requires-2 : goal.word_at-requires-2
word_at-requires-2 c = omega (arith, sized_counts _ c.requires)

pub word_at-requires-3 : goal.word_at-requires-3
word_at-requires-3 c = omega (arith, sized_counts _ c.requires)

pub word_at-requires-4 : goal.word_at-requires-4
word_at-requires-4 c = omega (arith, sized_counts _ c.requires)
