-- `image_elements::image_table` meets its contract: the triangles, or the straps where there are none. The laws are in proofs/Whole.antt.
use native.Mathlib.Omega.{arith}
use borrow.Author.Rules.{rules}
use Rattle.image.proofs.Loading.{sized_counts}
use Rattle.image_elements.proofs.Whole.{triangles_in, edges_in, triangles_told, straps_told}
use Rattle.image_elements.proofs.image_table.Goals as goal

pub triangle_rows-requires : goal.triangle_rows-requires
triangle_rows-requires c = let P = c.requires in triangles_in _ P.0 P.1 _ _ (omega (arith, c.word_at-p.ensures.0)) c.word_at-t.ensures.0 P.2

pub returns-then-t-ne0 : goal.returns-then-t-ne0
returns-then-t-ne0 c = let P = c.requires in triangles_told _ P.0 P.1 _ _ _ _ _ (omega (arith, c.word_at-p.ensures.0)) c.word_at-t.ensures.0 c.if-t-ne0.true c.triangle_rows.ensures

pub strap_rows-n-requires : goal.strap_rows-n-requires
strap_rows-n-requires c = let P = c.requires in edges_in _ P.0 P.1 _ _ (omega (arith, c.word_at-p.ensures.0)) c.word_at-e.ensures.0 P.2

pub returns : goal.returns
returns c = let P = c.requires in straps_told _ P.0 P.1 _ _ _ _ _ _ _ (omega (arith, c.word_at-p.ensures.0)) c.word_at-t.ensures.0 c.if-t-ne0.false c.word_at-e.ensures.0 c.strap_rows-n.ensures

-- `image_elements::image_table` meets its contract: the triangles, or the straps where there are none. The laws are in proofs/Whole.antt.
pub word_at-p-requires : goal.word_at-p-requires
word_at-p-requires c = omega (arith, sized_counts _ c.requires.0)

pub word_at-t-requires : goal.word_at-t-requires
word_at-t-requires c = omega (arith, sized_counts _ c.requires.0)

pub word_at-e-requires : goal.word_at-e-requires
word_at-e-requires c = omega (arith, sized_counts _ c.requires.0)
