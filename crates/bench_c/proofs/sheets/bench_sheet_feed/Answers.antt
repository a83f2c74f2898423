-- `bench_c::sheets::bench_sheet_feed` meets its contract: the part is fed. Assumes nothing.
use Rattle.bench_c.proofs.sheets.bench_sheet_feed.Goals as goal

pub returns : goal.returns
returns c = c.feed_bytes.ensures
