-- `image_writing::store_without` meets its contract: the counts, and each block behind the one before. Assumes nothing.
use native.Mathlib.Omega.{arith}
use mathlib.Core.Path.{◌∙◌}
use Rattle.image_writing.proofs.Stored.{points_placed, roots_placed, corners_placed, volumes_placed, ends_placed, lengths_placed, outline_placed, stored_all}
use Rattle.image_writing.proofs.store_without.Goals as goal

pub store_numbers_block-requires : goal.store_numbers_block-requires
store_numbers_block-requires c = points_placed _ _ _ _ _ _ _ _ _ _ _ _ c.requires _ c.store_four.auto.out

pub store_words_block-requires : goal.store_words_block-requires
store_words_block-requires c = roots_placed _ _ _ _ _ _ _ _ _ _ _ _ c.requires _ (c.store_numbers_block.auto.out ∙ c.store_four.auto.out)

pub store_words_block-requires-2 : goal.store_words_block-requires-2
store_words_block-requires-2 c = corners_placed _ _ _ _ _ _ _ _ _ _ _ _ c.requires _ (c.store_words_block.auto.out ∙ c.store_numbers_block.auto.out ∙ c.store_four.auto.out)

pub store_numbers_block-requires-2 : goal.store_numbers_block-requires-2
store_numbers_block-requires-2 c = volumes_placed _ _ _ _ _ _ _ _ _ _ _ _ c.requires _ (c.store_words_block-2.auto.out ∙ c.store_words_block.auto.out ∙ c.store_numbers_block.auto.out ∙ c.store_four.auto.out)

pub store_words_block-requires-3 : goal.store_words_block-requires-3
store_words_block-requires-3 c = ends_placed _ _ _ _ _ _ _ _ _ _ _ _ c.requires _ (c.store_numbers_block-2.auto.out ∙ c.store_words_block-2.auto.out ∙ c.store_words_block.auto.out ∙ c.store_numbers_block.auto.out ∙ c.store_four.auto.out)

pub store_numbers_block-requires-3 : goal.store_numbers_block-requires-3
store_numbers_block-requires-3 c = lengths_placed _ _ _ _ _ _ _ _ _ _ _ _ c.requires _ (c.store_words_block-3.auto.out ∙ c.store_numbers_block-2.auto.out ∙ c.store_words_block-2.auto.out ∙ c.store_words_block.auto.out ∙ c.store_numbers_block.auto.out ∙ c.store_four.auto.out)

pub store_words_block-requires-4 : goal.store_words_block-requires-4
store_words_block-requires-4 c = outline_placed _ _ _ _ _ _ _ _ _ _ _ _ c.requires _ (c.store_numbers_block-3.auto.out ∙ c.store_words_block-3.auto.out ∙ c.store_numbers_block-2.auto.out ∙ c.store_words_block-2.auto.out ∙ c.store_words_block.auto.out ∙ c.store_numbers_block.auto.out ∙ c.store_four.auto.out)

pub shape_of-out : goal.shape_of-out
shape_of-out c = c.store_words_block-4.auto.out ∙ c.store_numbers_block-3.auto.out ∙ c.store_words_block-3.auto.out ∙ c.store_numbers_block-2.auto.out ∙ c.store_words_block-2.auto.out ∙ c.store_words_block.auto.out ∙ c.store_numbers_block.auto.out ∙ c.store_four.auto.out

pub returns : goal.returns
returns c = stored_all _ _ _ _ _ _ _ _ _ _ _ _ _ _ _ _ _ _ _ _ c.requires c.store_four.ensures c.store_numbers_block.ensures c.store_words_block.ensures c.store_words_block-2.ensures c.store_numbers_block-2.ensures c.store_words_block-3.ensures c.store_numbers_block-3.ensures c.store_words_block-4.ensures
