-- `split::settle::log_fits` meets its contract: the sum is compared without being made. Assumes nothing.
use Rattle.split.proofs.NoteLaws.{fits_not, fits_rest}
use borrow.Author.Rules.{rules}
use Rattle.split.proofs.settle.log_fits.Goals as goal

-- `split::settle::log_fits` meets its contract: the sum is compared without being made. Assumes nothing.
pub returns-then-free-s : goal.returns-then-free-s
returns-then-free-s c = fits_not _ _ _ _ c.if-free-s.true

pub returns : goal.returns
returns c = fits_rest _ _ _ _ c.if-free-s.false
