-- `arguments::tests::fraction_fits` meets its contract. Assumes nothing.
use lib.Ieee.{of_bits}
use Rattle.arguments.proofs.tests.fraction_fits.Goals as goal

pub returns : goal.returns
unfolding of_bits
returns c = c.both.ensures
