-- `sheet_rows::float_of` meets its contract. Assumes nothing.
use mathlib.Core.Path.{◌≡◌, sym, subst, ap, ◌∙◌}
use lib.Dec.{T}
use lib.IntN.{ℤ}
use mir.Syntax.{w64}
use mir.Val.{SFits}
use mir.ValLaws.{to_z-of_z}
use Rattle.sheet.proofs.CoordLaws.{coord_in_float, coord_fits}
use lib.Ieee.{in_float, of_int, binary32}
use Rattle.sheet.specs.Read.{the_float_of}
use borrow.Author.Rules.{rules}
use Rattle.sheet_rows.proofs.float_of.Goals as goal

pub int_to_float-result : goal.int_to_float-result
int_to_float-result c = subst (λ (z : ℤ). T (in_float binary32 z)) (sym (to_z-of_z w64 _ (subst (λ (z : ℤ). SFits w64 z) (sym c.coordinate.ensures) (coord_fits _ c.requires)) ∙ c.coordinate.ensures)) (coord_in_float _ c.requires)

pub returns : goal.returns
unfolding the_float_of
returns c = ap (of_int binary32) (to_z-of_z w64 _ (subst (λ (z : ℤ). SFits w64 z) (sym c.coordinate.ensures) (coord_fits _ c.requires)) ∙ c.coordinate.ensures)
