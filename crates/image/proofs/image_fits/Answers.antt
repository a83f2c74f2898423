-- `image::image_fits` meets its contract: the counts against the bytes. Assumes nothing.
use Rattle.image.proofs.Sizes.{fits_short, fits_as}
use Rattle.image.proofs.image_fits.Goals as goal

-- `image::image_fits` meets its contract: the counts against the bytes. Assumes nothing.
pub returns-then-image-lt16 : goal.returns-then-image-lt16
returns-then-image-lt16 c = fits_short _ c.if-image-lt16.true

pub returns : goal.returns
returns c = fits_as _ _ _ _ _ c.word_at-p.ensures.0 c.word_at-t.ensures.0 c.word_at-e.ensures.0 c.word_at-b.ensures.0 c.if-image-lt16.false
