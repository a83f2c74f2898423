-- `bench_c::sheets::bench_mend` meets its contract: the sheet is mended. Assumes nothing.
use Rattle.bench_c.proofs.sheets.bench_mend.Goals as goal

pub shape_of-mended : goal.shape_of-mended
shape_of-mended c = c.mend.auto.mended

pub shape_of-text : goal.shape_of-text
shape_of-text c = c.mend.auto.text

pub shape_of-counts : goal.shape_of-counts
shape_of-counts c = c.mend.auto.counts

pub returns : goal.returns
returns c = c.mend.ensures
