-- `differing::list_second` meets its contract: the refusal of the second sheet, or the differences. Assumes nothing.
use Rattle.differing.proofs.Wholes.{first_in, second_told, second_refused}
use Rattle.edition.proofs.Meshes.{outlined_sides}
use mathlib.Core.Path.{sym, ◌∙◌}
use Prim.Native.Nat.{◌≤◌}
use native.Mathlib.Omega.{arith}
use borrow.Author.Rules.{rules}
use Rattle.differing.proofs.list_second.Goals as goal

pub look_into-seen-requires : goal.look_into-seen-requires
look_into-seen-requires c = let h : 6144 ≤ 6144 = omega arith in h

pub write_differences-requires : goal.write_differences-requires
write_differences-requires c = let a = c.args in record { first = c.requires; second = (first_in a.second.now _ _ _ (sym c.look_into-seen.ensures.answer ∙ c.in-Ok.is) (outlined_sides c.look_into-seen.result a.second.now _ _ _ c.in-Ok.is c.look_into-seen.ensures.outlined) c.look_into-seen.auto.block); few = omega arith }

pub shape_of-out-in-Ok : goal.shape_of-out-in-Ok
shape_of-out-in-Ok c = c.write_differences.auto.out

pub returns-in-Ok : goal.returns-in-Ok
returns-in-Ok c = let a = c.args in second_told a.first.now a.second.now _ _ _ _ _ (sym c.look_into-seen.ensures.answer ∙ c.in-Ok.is) c.requires.within (first_in a.second.now _ _ _ (sym c.look_into-seen.ensures.answer ∙ c.in-Ok.is) (outlined_sides c.look_into-seen.result a.second.now _ _ _ c.in-Ok.is c.look_into-seen.ensures.outlined) c.look_into-seen.auto.block).within c.write_differences.ensures

pub shape_of-out-in-Err : goal.shape_of-out-in-Err
shape_of-out-in-Err c = c.write_refused.auto.out

pub returns-in-Err : goal.returns-in-Err
returns-in-Err c = let a = c.args in second_refused a.first.now a.second.now _ _ _ _ (sym c.look_into-seen.ensures.answer ∙ c.in-Err.is) (search rules) (rw c.number.ensures at c.write_refused.ensures)
