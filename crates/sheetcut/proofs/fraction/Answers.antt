-- `sheetcut::fraction` meets its contract: the literal has the bits. Assumes nothing.
use mathlib.Core.Path.{refl}
use lib.Ieee.{of_bits}
use Rattle.sheetcut.specs.SheetCut.{fraction}
use Rattle.sheetcut.proofs.fraction.Goals as goal

-- `sheetcut::fraction` meets its contract: the literal has the bits. Assumes nothing.
pub returns : goal.returns
unfolding of_bits fraction
returns c = refl
