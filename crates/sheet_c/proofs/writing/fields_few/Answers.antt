-- `sheet_c::writing::fields_few` meets its contract: the three counts, one after the other. Assumes nothing.
use Rattle.sheet_c.proofs.Fielding.{many_particles, many_triangles, few_edges}
use Rattle.sheet_c.proofs.writing.fields_few.Goals as goal

pub returns-then-p-gt-PARTICLES : goal.returns-then-p-gt-PARTICLES
returns-then-p-gt-PARTICLES c = many_particles _ _ c.word_at-p.ensures.0 c.if-p-gt-PARTICLES.true

pub returns-then-t-gt-TRIANGLES : goal.returns-then-t-gt-TRIANGLES
returns-then-t-gt-TRIANGLES c = many_triangles _ _ _ c.word_at-p.ensures.0 c.if-p-gt-PARTICLES.false c.word_at-t.ensures.0 c.if-t-gt-TRIANGLES.true

pub returns : goal.returns
returns c = few_edges _ _ _ _ c.word_at-p.ensures.0 c.if-p-gt-PARTICLES.false c.word_at-t.ensures.0 c.if-t-gt-TRIANGLES.false c.word_at-e.ensures.0
