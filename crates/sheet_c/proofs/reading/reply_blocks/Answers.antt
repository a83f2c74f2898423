-- `sheet_c::reading::reply_blocks` meets its contract: the blade and the image, where the bytes have room for them. Assumes nothing.
use mathlib.Core.Path.{refl, ◌∙◌}
use Rattle.sheet_c.proofs.Sheeting.{blocks_short, blocks_storable, blocks_replied}
use Rattle.sheet_c.proofs.reading.reply_blocks.Goals as goal

pub returns-then-out-c : goal.returns-then-out-c
returns-then-out-c c = let A = c.args in blocks_short A.first A.c A.points.now A.roots.now A.corners.now A.volumes.now A.ends.now A.lengths.now A.outline.now A.blade.now c.requires _ _ _ c.if-out-c.true c.reply_refused.ensures

pub store-requires : goal.store-requires
store-requires c = let A = c.args in blocks_storable A.first A.c A.points.now A.roots.now A.corners.now A.volumes.now A.ends.now A.lengths.now A.outline.now A.blade.now c.requires _ _ (c.store_numbers.auto.out ∙ c.write_one.auto.out) c.if-out-c.false

pub shape_of-out : goal.shape_of-out
shape_of-out c = c.store.auto.out ∙ c.store_numbers.auto.out ∙ c.write_one.auto.out

pub returns : goal.returns
returns c = let A = c.args in blocks_replied A.first A.c A.points.now A.roots.now A.corners.now A.volumes.now A.ends.now A.lengths.now A.outline.now A.blade.now c.requires _ _ _ _ _ c.if-out-c.false c.write_one.ensures c.store_numbers.ensures c.store.ensures refl
