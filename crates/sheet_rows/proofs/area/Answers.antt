-- `sheet_rows::area` meets its contract. Assumes nothing.
use mathlib.Core.Path.{ap}
use lib.Ieee.{Float}
use Rattle.float.specs.Numbers.{times, half}
use lib.Ieee.{of_bits}
use Rattle.sheet.specs.Read.{area_of}
use borrow.Author.Rules.{rules}
use Rattle.sheet_rows.proofs.area.Goals as goal

pub returns : goal.returns
unfolding of_bits area_of
returns c = ap (λ (x : Float). times x half) c.abs.ensures
