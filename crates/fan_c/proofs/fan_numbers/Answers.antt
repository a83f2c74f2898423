-- `fan_c::fan_numbers` meets its contract: the triangles that hold v, or the straps where there is no triangle. Assumes nothing.
use native.Mathlib.Omega.{arith}
use Rattle.image.proofs.Loading.{sized_counts, sized_loadable, triangles_few, edges_few}
use Rattle.fan_c.proofs.Fanning.{triangles_listed, straps_listed}
use Rattle.fan_c.proofs.fan_numbers.Goals as goal

pub triangle_numbers-requires : goal.triangle_numbers-requires
triangle_numbers-requires c = (omega (arith, (sized_loadable _ c.requires.0).long, c.word_at-p.ensures.0, c.word_at-t.ensures.0, c.word_at-e.ensures.0), omega (arith, triangles_few _ c.requires.0, c.word_at-t.ensures.0, c.requires.1))

pub returns-then-t-ne0 : goal.returns-then-t-ne0
returns-then-t-ne0 c = triangles_listed c.args.bytes.now _ _ _ _ _ _ c.word_at-p.ensures.0 c.word_at-t.ensures.0 c.word_at-e.ensures.0 c.if-t-ne0.true (omega (arith, triangles_few _ c.requires.0, c.word_at-t.ensures.0, c.triangle_numbers.ensures.0)) c.triangle_numbers.ensures.1

pub strap_numbers-requires : goal.strap_numbers-requires
strap_numbers-requires c = (omega (arith, (sized_loadable _ c.requires.0).long, c.word_at-p.ensures.0, c.word_at-t.ensures.0, c.word_at-e.ensures.0), omega (arith, edges_few _ c.requires.0, c.word_at-e.ensures.0, c.requires.1))

pub returns : goal.returns
returns c = straps_listed c.args.bytes.now _ _ _ _ _ _ c.word_at-p.ensures.0 c.word_at-t.ensures.0 c.word_at-e.ensures.0 c.if-t-ne0.false (omega (arith, edges_few _ c.requires.0, c.word_at-e.ensures.0, c.strap_numbers.ensures.0)) c.strap_numbers.ensures.1

-- `fan_c::fan_numbers` meets its contract: the triangles that hold v, or the straps where there is no triangle. Assumes nothing.
pub word_at-p-requires : goal.word_at-p-requires
word_at-p-requires c = omega (arith, sized_counts _ c.requires.0)

pub word_at-t-requires : goal.word_at-t-requires
word_at-t-requires c = omega (arith, sized_counts _ c.requires.0)

pub word_at-e-requires : goal.word_at-e-requires
word_at-e-requires c = omega (arith, sized_counts _ c.requires.0)
