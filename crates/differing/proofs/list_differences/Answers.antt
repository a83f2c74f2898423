-- `differing::list_differences` meets its contract: the refusal of the first sheet, or what the second brings. Assumes nothing.
use Rattle.differing.proofs.Wholes.{first_in, first_whole, first_refused}
use Rattle.edition.proofs.Meshes.{outlined_sides}
use mathlib.Core.Path.{sym, ◌∙◌}
use Prim.Native.Nat.{◌≤◌}
use native.Mathlib.Omega.{arith}
use borrow.Author.Rules.{rules}
use Rattle.differing.proofs.list_differences.Goals as goal

pub look_into-seen-requires : goal.look_into-seen-requires
look_into-seen-requires c = let h : 6144 ≤ 6144 = omega arith in h

pub list_second-requires : goal.list_second-requires
list_second-requires c = let a = c.args in (first_in a.first.now _ _ _ (sym c.look_into-seen.ensures.answer ∙ c.in-Ok.is) (outlined_sides c.look_into-seen.result a.first.now _ _ _ c.in-Ok.is c.look_into-seen.ensures.outlined) c.look_into-seen.auto.block)

pub shape_of-out-in-Ok : goal.shape_of-out-in-Ok
shape_of-out-in-Ok c = c.list_second.auto.out

pub returns-in-Ok : goal.returns-in-Ok
returns-in-Ok c = let a = c.args in first_whole a.first.now a.second.now _ _ _ _ _ (sym c.look_into-seen.ensures.answer ∙ c.in-Ok.is) c.list_second.ensures

pub shape_of-out-in-Err : goal.shape_of-out-in-Err
shape_of-out-in-Err c = c.write_refused.auto.out

pub returns-in-Err : goal.returns-in-Err
returns-in-Err c = let a = c.args in first_refused a.first.now a.second.now _ _ _ _ (sym c.look_into-seen.ensures.answer ∙ c.in-Err.is) (search rules) (rw c.number.ensures at c.write_refused.ensures)
