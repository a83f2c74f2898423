-- `sheet_rows::coordinate` meets its contract. Assumes nothing.
use native.Mathlib.Omega.{arith}
use mathlib.Core.Path.{◌≡◌, ◌∙◌, sym}
use mir.Syntax.{w64}
use mir.ValLaws.{to_z_pos, to_z-of_z}
use Rattle.sheet.proofs.CoordLaws.{coord_low, coord_high, below_2048, below_fits}
use borrow.Author.Rules.{rules}
use Rattle.sheet_rows.proofs.coordinate.Goals as goal

pub returns-then-raw-lt1024 : goal.returns-then-raw-lt1024
returns-then-raw-lt1024 c = to_z_pos w64 c.args.raw (omega arith) ∙ sym (coord_low c.args.raw c.if-raw-lt1024.true)

pub overflow_sub-result : goal.overflow_sub-result
overflow_sub-result c = below_fits c.args.raw c.requires

pub returns : goal.returns
returns c =
    let n = c.args.raw in
    to_z-of_z w64 _ (below_fits n c.requires) ∙ (below_2048 n c.requires ∙ sym (coord_high n c.if-raw-lt1024.false c.requires))
