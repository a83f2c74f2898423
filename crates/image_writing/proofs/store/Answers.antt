-- `image_writing::store` meets its contract: an image without any listed edge. Assumes nothing.
use mathlib.Core.Path.{refl, ap, ◌∙◌}
use Rattle.image.specs.Words.{put_words}
use Rattle.image_writing.proofs.Stored.{left_words_none, storable_without}
use Rattle.image_writing.proofs.store.Goals as goal

pub store_without-requires : goal.store_without-requires
store_without-requires c = storable_without _ _ _ _ _ _ _ _ _ _ _ c.requires

pub shape_of-out : goal.shape_of-out
shape_of-out c = c.store_without.auto.out

pub returns : goal.returns
returns c = c.store_without.ensures ∙ ap (put_words _ _) (left_words_none _ _ _ _ _ _ _ _)
