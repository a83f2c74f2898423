-- `image::image_sized` meets its contract: both tests. Assumes nothing.
use Rattle.image.proofs.Sizes.{fits_counts, sized_as, sized_not}
use Rattle.image.proofs.image_sized.Goals as goal

pub counts_within-requires : goal.counts_within-requires
counts_within-requires c = fits_counts _ _ c.image_fits.ensures c.if-image_fits.true

pub returns-then-image_fits : goal.returns-then-image_fits
returns-then-image_fits c = sized_as _ _ _ c.image_fits.ensures c.if-image_fits.true c.counts_within.ensures

pub returns : goal.returns
returns c = sized_not _ _ c.image_fits.ensures c.if-image_fits.false
